-- What the monitor does keeps the memories clean. Assumes nothing.
use mathlib.Core.Path.{◌≡◌, refl, sym, ◌∙◌}
use mathlib.Core.List.{List}
use Prim.Native.Nat.{ℕ, ◌+◌, ◌*◌, ◌^◌, ◌≤◌, ◌<◌}
use native.Mathlib.Decide.{dec_lt}
use native.Mathlib.Omega.{arith}
use lib.ListN.{length}
use Rattle.base.specs.Search.{Stops}
use Rattle.bitmap_tree.specs.Tree.{free, cap}
use Rattle.owners.specs.States.{State.Free, State.Reserved, State.Owned, state, Accounted}
use Rattle.owners.proofs.States.{state_told, not_reserved, client_not_reserved, behind_reserved, dec_owned}
use Rattle.owner_passes.specs.Passes as passes
use Rattle.allocator_pool.specs.Changes as shared
use Rattle.contents.specs.Contents.{frames_in, Backed, Zero, Wiped, WipedOf, Clean}
use Rattle.frames_pool.specs.Pool.{Sized, Init, OpenedAt, ClosedAt}
use Rattle.contents.proofs.Cleaning.{backed_still, same_zero, clean_after, reserved_not_free}

pub init : (base : ℕ) (t o w t' o' w' : List ℕ) → Sized base t o w → base + 4096 * frames_in w < 2 ^ 64 → Wiped w 0 (frames_in w) w' → passes.Begun t o (frames_in w) t' o' → Init base t o w t' o' w'
init base t o w t' o' w' s h x b = record {
  sized = s;
  begun = b;
  wiped = x;
  clean = record {
    accounted = b.accounted base s.fits.aligned h;
    backed = backed_still o w o' w' b.bytes x.long s.backed;
    beyond = λ k l. b.reserved k (rw x.long at l);
    zero = λ k e. zero k e (dec_lt k (frames_in w));
  };
}
  where
    zero : (k : ℕ) → state t' o' k ≡ Free → Dec (k < frames_in w) → Zero w' k
    zero k e (yes l) = x.inside k (omega arith) l
    zero k e (no g) = absurd (not_reserved (sym e ∙ b.reserved k (omega (arith, g))))

pub opened : (base : ℕ) (t o w : List ℕ) (a b : ℕ) (t' o' w' : List ℕ) → Backed o w → shared.Opened base t o a b t' o' → Wiped w a b w' → b ≤ frames_in w → OpenedAt base t o w a b t' o' w'
opened base t o w a b t' o' w' k g x l = record {
  backed = k;
  inside = l;
  opened = g;
  wiped = x;
  clean = λ q. clean_after base t o w a b Free t' o' w' q (g.accounted q.accounted) g.change x.long (λ m p h n. absurd (omega arith)) (λ m p h _. x.inside m p h) x.outside;
}

pub closed : (base : ℕ) (t o w : List ℕ) (a b : ℕ) (t' o' : List ℕ) → Backed o w → shared.Closed base t o a b t' o' → ClosedAt base t o w a b t' o'
closed base t o w a b t' o' k g = record {
  backed = k;
  closed = g;
  clean = λ q. clean_after base t o w a b Reserved t' o' w q (g.accounted q.accounted) g.change refl (λ m p h n. refl) (λ m p h e. absurd (reserved_not_free e)) (λ m n i l. refl);
}

-- a client's frames, cleared and released
pub left_clean : (base : ℕ) (t o w : List ℕ) (c : ℕ) (t' o' w' : List ℕ) → passes.Released t o c t' o' → WipedOf t o w c w' → Clean base t o w → Clean base t' o' w'
left_clean base t o w c t' o' w' r x q = record {
  accounted = r.accounted base q.accounted;
  backed = backed_still o w o' w' r.bytes x.long q.backed;
  beyond = λ k l. let e = q.beyond k (rw x.long at l) in r.others k (λ s. client_not_reserved c (sym s ∙ e)) ∙ e;
  zero = λ k e. zero k e (dec_owned t o k c);
}
  where
    zero : (k : ℕ) → state t' o' k ≡ Free → Dec (state t o k ≡ Owned c) → Zero w' k
    zero k e (yes s) = inside (dec_lt k (frames_in w))
      where
        inside : Dec (k < frames_in w) → Zero w' k
        inside (yes l) = x.mine k l s
        inside (no g) = absurd (client_not_reserved c (sym s ∙ q.beyond k (omega (arith, g))))
    zero k e (no n) = same_zero w w' k (x.others k n) (q.zero k (sym (r.others k n) ∙ e))

-- frames behind the last are reserved, and so all that have no contents
pub all_beyond : (t o : List ℕ) (n k : ℕ) → length o ≡ cap t → Stops (λ m. state t o m ≡ Reserved) n (cap t) k → k ≡ cap t → (m : ℕ) → n ≤ m → state t o m ≡ Reserved
all_beyond t o n k l s e m p = go (dec_lt m (cap t))
  where
    go : Dec (m < cap t) → state t o m ≡ Reserved
    go (yes h) = s.before m p (omega arith)
    go (no g) = behind_reserved t o m l (omega (arith, g))

-- a frame of which it can't be that it is not the client's is
pub owned_surely : (t o : List ℕ) (k c : ℕ) → ((state t o k ≡ Owned c → ⊥) → ⊥) → state t o k ≡ Owned c
owned_surely t o k c n = go (dec_owned t o k c)
  where
    go : Dec (state t o k ≡ Owned c) → state t o k ≡ Owned c
    go (yes e) = e
    go (no d) = absurd (n d)

-- none of the frames that have no contents is the client's
pub none_beyond : (t o : List ℕ) (c n k : ℕ) → length o ≡ cap t → Stops (λ m. state t o m ≡ Owned c → ⊥) n (cap t) k → k ≡ cap t → (m : ℕ) → n ≤ m → state t o m ≡ Owned c → ⊥
none_beyond t o c n k l s e m p q = go (dec_lt m (cap t))
  where
    go : Dec (m < cap t) → ⊥
    go (yes h) = s.before m p (omega arith) q
    go (no g) = client_not_reserved c (sym q ∙ behind_reserved t o m l (omega (arith, g)))

-- every free frame was looked at
pub all_clean : (base : ℕ) (t o w : List ℕ) (k : ℕ) → Accounted base t o → Backed o w → ((m : ℕ) → frames_in w ≤ m → state t o m ≡ Reserved) → Stops (λ m. free t m ≡ 1 → Zero w m) 0 (frames_in w) k → k ≡ frames_in w → Clean base t o w
all_clean base t o w k a b beyond s e = record { accounted = a; backed = b; beyond = beyond; zero = λ m f. go m f (dec_lt m (frames_in w)) }
  where
    go : (m : ℕ) → state t o m ≡ Free → Dec (m < frames_in w) → Zero w m
    go m f (yes l) = s.before m (omega arith) (omega arith) (state_told t o m Free f)
    go m f (no g) = absurd (not_reserved (sym f ∙ beyond m (omega (arith, g))))
