-- A configuration for each rule that one can break: what is wrong with it. Assumes nothing.
use mathlib.Core.Path.{◌≡◌, refl}
use Prim.Native.Nat.{ℕ, ◌<◌}
use native.Mathlib.Omega.{arith}
use lib.Dec.{lit<, lit≤}
use Rattle.std.specs.Prelude.{Err}
use Rattle.base.specs.Search.{First}
use Rattle.address.specs.declared.Fault.{Fault}
use Rattle.address.specs.declared.Kind.{Kind}
use Rattle.address.specs.declared.Region.{Region}
use Rattle.address.specs.Regions.{Valid, ValiditySays}
use Rattle.address.proofs.Theorems.{share_self, share_mutual}
use Rattle.config_model.specs.Config.{Config, HostMeets}
use Rattle.config_model.specs.Rules.{IsValid, OffPool, Alone, AllPairs, WithAll, Rules}
use Rattle.config_model.proofs.Laws.{ok_rules}
use Rattle.config_pairs.specs.Pairs.{Holds, Between, FirstClash}
use Rattle.config_pairs.specs.declared.Rule.{Rule}
use Rattle.config_rules.specs.Judging.{WrongSays}
use Rattle.config_rules.specs.declared.Reason.{Reason}
use Rattle.region_examples.proofs.Regions.{empty, guest_off, host_off, guest_high, host_high, empty_not, guest_off_not, host_off_not, guest_high_not, host_high_not}
use Rattle.region_examples.proofs.Address.{validity_no_page, validity_guest_start, validity_host_start, validity_guest_end, validity_host_end}
use Rattle.config_examples.proofs.Pairs.{fork, two, one, in_two, in_one, below_two}
use Rattle.config_examples.proofs.Truck.{first, second, truck, first_valid, second_valid, pool_valid, truck_ok, apart}

-- the truck breaks no rule
truck_rules : Rules truck
truck_rules = ok_rules truck (λ m l. lit≤ tt) truck_ok

-- the first place of all is the first at which P fails, where it fails there
at_once : (P : ℕ → ℕ → Type 0) (width : ℕ → ℕ) (n : ℕ) → 0 < n → 0 < width 0 → (P 0 0 → ⊥) → First P width n 0 0
at_once P width n l h f = record { row = l; place = h; fails = f; rows_before = λ a b u v. absurd (omega arith); before = λ k u. absurd (omega arith) }

-- the first region of all and the first with which it may not stand
clash : (rule : Rule) (c : Config) (m i : ℕ) → 0 < c.machines → 0 < c.count 0 → First (Between rule c 0 0) c.count c.machines m i → FirstClash rule c 0 0 m i
clash rule c m i l h x =
    record { first = at_once (WithAll (Holds rule) c) c.count c.machines l h (λ w. x.fails (w m i x.row x.place)); other = x }

-- ---- one number

-- two machines have it
abbrev pub twins : Config
twins = two 7 7 first second 65536 2

pub same_number : WrongSays twins (Reason.SameNumber 0 1)
same_number =
    record {
      row = lit< tt;
      place = lit< tt;
      fails = λ x. x (lit< tt) refl;
      rows_before = λ a b l h. absurd (omega arith);
      before = λ k l x e. omega arith;
    }

-- ---- regions that are not valid

-- a is the first machine's region
abbrev pub bad : Region → Config
bad a = two 7 9 a second 65536 2

not_valid : (a : Region) (f : Fault) → ValiditySays a.guest a.host a.pages (Err f) → (Valid a.guest a.host a.pages → ⊥) → WrongSays (bad a) (Reason.NotValid 0 0 f)
not_valid a f is not =
    (truck_rules.numbers, at_once (IsValid (bad a)) (λ m. 1) 2 (lit< tt) (lit< tt) not, is)

-- one for each condition
pub no_page : WrongSays (bad empty) (Reason.NotValid 0 0 Fault.NoPage)
no_page = not_valid empty Fault.NoPage validity_no_page empty_not

pub guest_start : WrongSays (bad guest_off) (Reason.NotValid 0 0 Fault.GuestStart)
guest_start = not_valid guest_off Fault.GuestStart validity_guest_start guest_off_not

pub host_start : WrongSays (bad host_off) (Reason.NotValid 0 0 Fault.HostStart)
host_start = not_valid host_off Fault.HostStart validity_host_start host_off_not

pub guest_end : WrongSays (bad guest_high) (Reason.NotValid 0 0 Fault.GuestEnd)
guest_end = not_valid guest_high Fault.GuestEnd validity_guest_end guest_high_not

pub host_end : WrongSays (bad host_high) (Reason.NotValid 0 0 Fault.HostEnd)
host_end = not_valid host_high Fault.HostEnd validity_host_end host_high_not

-- the allocator has so many pages from the host address on
abbrev pub bad_pool : ℕ → ℕ → Config
bad_pool host pages = two 7 9 first second host pages

pool_not_valid : (host pages : ℕ) (f : Fault) → ValiditySays 0 host pages (Err f) → WrongSays (bad_pool host pages) (Reason.PoolNotValid f)
pool_not_valid host pages f is = ((truck_rules.numbers, truck_rules.valid), is)

-- one for each condition but that on the guest start
pub pool_no_page : WrongSays (bad_pool 65536 0) (Reason.PoolNotValid Fault.NoPage)
pool_no_page = pool_not_valid 65536 0 Fault.NoPage refl

pub pool_host_start : WrongSays (bad_pool 65537 2) (Reason.PoolNotValid Fault.HostStart)
pool_host_start = pool_not_valid 65537 2 Fault.HostStart (lit< tt, refl, λ e. omega (arith, e))

-- 2^52 pages
pub pool_guest_end : WrongSays (bad_pool 65536 4503599627370496) (Reason.PoolNotValid Fault.GuestEnd)
pool_guest_end =
    pool_not_valid 65536 4503599627370496 Fault.GuestEnd (record { some = lit< tt; guest_start = refl; host_start = refl }, λ f. omega (arith, f))

pub pool_host_end : WrongSays (bad_pool 18446744073709547520 2) (Reason.PoolNotValid Fault.HostEnd)
pool_host_end =
    pool_not_valid 18446744073709547520 2 Fault.HostEnd (record { some = lit< tt; guest_start = refl; host_start = refl }, lit< tt, λ f. omega (arith, f))

-- the allocator's region is not wrong for its guest start, which is 0
pub pool_not_for_guest : (c : Config) → WrongSays c (Reason.PoolNotValid Fault.GuestStart) → ⊥
pool_not_for_guest c x = x.1.1 refl

-- ---- one host page for two machines

-- both are given it as their own
abbrev pub greedy : Config
greedy = two 7 9 first first 65536 2

-- an ordinary region is not shared
ordinary : Kind.Ordinary ≡ Kind.Shared → ⊥
ordinary e = let z : ◌≡◌ {A = ℕ} 0 1 = cc in omega arith

pub host_shared : WrongSays greedy (Reason.HostShared 0 0 1 0)
host_shared = (
  ((truck_rules.numbers, in_two (IsValid greedy) first_valid first_valid), pool_valid),
  clash Rule.Alone greedy 1 0 (lit< tt) (lit< tt)
      (record {
        row = lit< tt;
        place = lit< tt;
        fails = λ x. x ordinary (λ e f. omega (arith, e)) (share_self (lit< tt));
        rows_before = λ a b l h k d s. d (omega arith) (omega arith);
        before = λ k l. absurd (omega arith);
      }),
)

-- ---- shared regions

-- so many shared pages from the guest address on
abbrev pub shared_at : ℕ → ℕ → Region
shared_at guest pages = record { guest = guest; host = 4096; pages = pages; kind = Kind.Shared }

-- two machines share two pages of which one is given both, and the other the first
abbrev pub partly : Config
partly = two 7 9 (shared_at 0 2) (shared_at 0 1) 65536 2

both_valid : Valid 0 4096 2
both_valid = record { on = record { some = lit< tt; guest_start = refl; host_start = refl }; guest_end = lit< tt; host_end = lit< tt }

meet : HostMeets (shared_at 0 2) (shared_at 0 1)
meet = record { page = 1; first = record { low = lit≤ tt; high = lit< tt }; second = record { low = lit≤ tt; high = lit< tt } }

pub not_coinciding : WrongSays partly (Reason.NotCoinciding 0 0 1 0)
not_coinciding = (
  (
    ((truck_rules.numbers, in_two (IsValid partly) both_valid first_valid), pool_valid),
    λ m i l h m' i' l' h' k d s. k (below_two (λ m. (fork (shared_at 0 2) (shared_at 0 1) m).kind ≡ Kind.Shared) refl refl m l),
  ),
  clash Rule.Together partly 1 0 (lit< tt) (lit< tt)
      (record {
        row = lit< tt;
        place = lit< tt;
        fails = λ x. let e = (x refl refl (lit< tt) meet).pages in omega arith;
        rows_before = λ a b l h k k' e s. absurd (omega arith);
        before = λ k l. absurd (omega arith);
      }),
  λ e. omega (arith, e),
)

-- one machine has one page twice
abbrev pub twice : Config
twice = one 7 (shared_at 0 1) (shared_at 4096 1) 65536 2

next_valid : Valid 4096 4096 1
next_valid = record { on = record { some = lit< tt; guest_start = refl; host_start = refl }; guest_end = lit< tt; host_end = lit< tt }

pub one_machine : WrongSays twice (Reason.OneMachine 0 0 1)
one_machine = (
  (
    ((λ m m' l h x e. omega arith, in_one (IsValid twice) first_valid next_valid), pool_valid),
    λ m i l h m' i' l' h' k d s. k (below_two (λ i. (fork (shared_at 0 1) (shared_at 4096 1) i).kind ≡ Kind.Shared) refl refl i h),
  ),
  clash Rule.Together twice 0 1 (lit< tt) (lit< tt)
      (record {
        row = lit< tt;
        place = lit< tt;
        fails = λ x. (x refl refl (lit< tt) (share_self (lit< tt))).two refl;
        rows_before = λ a b l h. absurd (omega arith);
        before = λ k l x y e s. absurd (omega arith);
      }),
)

-- ---- one guest page for two regions

-- of one machine
abbrev pub folded : Config
folded = one 7 first second 65536 2

alone : AllPairs Alone folded
alone =
    in_one (λ m i. (m' i' : ℕ) → m' < 1 → i' < 2 → Alone m i (fork first second i) m' i' (fork first second i'))
    (in_one (λ m i. Alone 0 0 first m i (fork first second i)) (λ k d s. d refl refl) (λ k d s. apart s))
    (in_one (λ m i. Alone 0 1 second m i (fork first second i)) (λ k d s. apart (share_mutual s)) (λ k d s. d refl refl))

pub guest_shared : WrongSays folded (Reason.GuestShared 0 0 1)
guest_shared = (
  (
    (((λ m m' l h x e. omega arith, in_one (IsValid folded) first_valid second_valid), pool_valid), alone),
    λ m i l h m' i' l' h' k. absurd (below_two (λ i. (fork first second i).kind ≡ Kind.Shared → ⊥) ordinary ordinary i h k),
  ),
  clash Rule.Clear folded 0 1 (lit< tt) (lit< tt)
      (record {
        row = lit< tt;
        place = lit< tt;
        fails = λ x. x refl (lit< tt) (share_self (lit< tt));
        rows_before = λ a b l h. absurd (omega arith);
        before = λ k l e x s. omega arith;
      }),
)

-- ---- a page of the allocator's

-- which the first machine is given
abbrev pub taken : Config
taken = two 7 9 first second 4096 1

pub pool_shared : WrongSays taken (Reason.PoolShared 0 0)
pool_shared = (
  (((((truck_rules.numbers, truck_rules.valid), first_valid), truck_rules.alone), truck_rules.together), truck_rules.clear),
  at_once (OffPool taken) (λ m. 1) 2 (lit< tt) (lit< tt) (λ x. x (share_self (lit< tt))),
)
