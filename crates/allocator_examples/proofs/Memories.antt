-- The memories of the examples: of sixteen frames the first is free, client 0's or reserved, and all others are reserved; and memories
-- that are not in order. The frames begin at 65536. Assumes nothing.
use mathlib.Core.Path.{◌≡◌, refl}
use mathlib.Core.List.{List, [], ◌∷◌}
use Prim.Native.Nat.{ℕ, zero, suc, ◌%◌, ◌<◌}
use native.Mathlib.Omega.{arith}
use lib.Dec.{lit<, lit≤}
use lib.ListN.{length, get_or, set, replicate}
use Rattle.bitmap_looks.specs.Looks.{LowestLie}
use Rattle.bitmap_examples.proofs.Trees as trees
use Rattle.bitmap_examples.proofs.Trees.{nothing, taken, one, lying}
use Rattle.bitmap_examples.proofs.BitmapLooks as looks
use Rattle.owners.specs.States.{State.Free, State.Reserved, State.Owned, state, RightAt, Accounted}
use Rattle.owners.specs.Writes.{Filled, Assigned}
use Rattle.owners.proofs.States.{free_state, owned_state, reserved_state, same_right}
use Rattle.owners.proofs.Sizes.{nobody_byte}
use Rattle.owners.proofs.Writes.{fill_none, fill_more, still, owned_right, free_right, reserved_right}
use Rattle.claims.specs.declared.Unfit.{Unfit}
use Rattle.claims.specs.Fits.{Fits, Misfit}
use Rattle.claims.specs.Offers.{Known}

-- ---- bytes of owners

-- nobody owns one of sixteen frames
abbrev pub nobody : List ℕ
nobody = replicate 16 255

-- client 0 owns the first of sixteen frames
abbrev pub held : List ℕ
held = 0 ∷ replicate 15 255

-- the first byte is neither a client's nor nobody's
abbrev pub strange : List ℕ
strange = 64 ∷ replicate 15 255

-- one byte for sixteen frames
abbrev pub few : List ℕ
few = 255 ∷ []

-- nobody owns one of 256 frames
abbrev pub nobody_of_many : List ℕ
nobody_of_many = replicate 256 255

-- the last place at which a frame can begin, as the base
abbrev pub high : ℕ
high = 18446744073709547520

-- the bytes behind the first, where the first is client 0's
other_byte : (k : ℕ) → 0 < k → get_or held k 255 ≡ 255
other_byte zero l = absurd (omega arith)
other_byte (suc k) l = nobody_byte 15 k

-- ---- what the frames are

-- the first frame, free
pub first_free : state one nobody 0 ≡ Free
first_free = free_state one nobody 0 trees.first_free

-- and client 0's
pub first_owned : state taken held 0 ≡ Owned 0
first_owned = owned_state taken held 0 0 (trees.none_free 0) refl (lit< tt)

-- all others are reserved
pub behind_free : (k : ℕ) → 0 < k → state one nobody k ≡ Reserved
behind_free k l = let e = nobody_byte 16 k in reserved_state one nobody k (trees.one_free k l) (λ h. omega arith)

pub behind_owned : (k : ℕ) → 0 < k → state taken held k ≡ Reserved
behind_owned k l = let e = other_byte k l in reserved_state taken held k (trees.none_free k) (λ h. omega arith)

pub all_reserved : (k : ℕ) → state taken nobody k ≡ Reserved
all_reserved k = let e = nobody_byte 16 k in reserved_state taken nobody k (trees.none_free k) (λ h. omega arith)

-- ---- changes of the first frame

-- its byte
first_byte : (o : List ℕ) (c : ℕ) → 0 < length o → Filled o 0 1 c (set o 0 c)
first_byte o c l = fill_more o 0 0 c o (lit≤ tt) l (fill_none o 0 c)

-- from free to client 0's, and back
pub given : Assigned one nobody 0 1 0 0 taken held
given = record { bits = trees.was_taken; bytes = first_byte nobody 0 (lit< tt) }

pub given_back : Assigned taken held 0 1 1 255 one nobody
given_back = record { bits = trees.was_freed; bytes = first_byte held 255 (lit< tt) }

-- from reserved to free, and back
pub opened : Assigned taken nobody 0 1 1 255 one nobody
opened = record { bits = trees.was_freed; bytes = first_byte nobody 255 (lit< tt) }

pub closed : Assigned one nobody 0 1 0 255 taken nobody
closed = record { bits = trees.was_taken; bytes = first_byte nobody 255 (lit< tt) }

-- ---- memories in order

-- all frames reserved, at any base
pub accounted_reserved : (base : ℕ) → base % 4096 ≡ 0 → Accounted base taken nobody
accounted_reserved base e =
    record {
      matched = record { full = trees.full; bytes = refl };
      aligned = e;
      agree = trees.agree 0;
      right = λ k l. same_right base k 0 255 _ _ (trees.none_free k) (nobody_byte 16 k) (reserved_right base k);
    }

-- the first free, at 65536
pub accounted_free : Accounted 65536 one nobody
accounted_free =
    still taken nobody 0 1 1 255 one nobody opened 65536 (accounted_reserved 65536 refl) (λ k l h. free_right 65536 k (omega arith))

-- the first client 0's, at 65536
pub accounted_owned : Accounted 65536 taken held
accounted_owned =
    still one nobody 0 1 0 0 taken held given 65536 accounted_free (λ k l h. owned_right 65536 k 0 (lit< tt) (omega arith))

-- memories in order fit
pub fits : (base : ℕ) (t o : List ℕ) → Accounted base t o → Fits base t o
fits base t o a = record { matched = a.matched; aligned = a.aligned }

-- and are asked for by a client that there is
pub known : (base : ℕ) (t o : List ℕ) (c : ℕ) → Accounted base t o → c < 64 → Known base t o c
known base t o c a l = record { fits = fits base t o a; client = l }

-- ---- memories that are not

-- 256 frames whose root lies
pub fits_lying : Fits 65536 lying nobody_of_many
fits_lying = record { matched = record { full = trees.full_lying; bytes = refl }; aligned = refl }

pub corrupt : Accounted 65536 lying nobody_of_many → ⊥
corrupt a = trees.lies a.agree

pub lowest_lie : LowestLie lying 0
lowest_lie = (looks.check_lie).1

-- a byte that is no client's and not nobody's
pub fits_strange : Fits 65536 taken strange
fits_strange = record { matched = record { full = trees.full; bytes = refl }; aligned = refl }

pub wrong : RightAt 65536 taken strange 0 → ⊥
wrong r = let l = r.known (λ e. omega (arith, e)) in omega arith

-- no full tree; too few bytes; and a base that is no multiple of 65536
pub not_full_lem : Misfit 65536 nothing nobody Unfit.NotFull
not_full_lem = trees.not_full_lem

pub unmatched : Misfit 65536 one few Unfit.Unmatched
unmatched = (trees.full, λ e. omega (arith, e))

pub bad_base_lem : Misfit 1 one nobody Unfit.BadBase
bad_base_lem = (accounted_free.matched, λ e. omega (arith, e))
