-- When the lent memories are those of a configuration. Assumes nothing.
use mathlib.Core.Path.{◌≡◌, ◌∙◌, ap, subst}
use mathlib.Core.List.{List}
use Prim.Native.Nat.{ℕ, ◌≤◌, ◌<◌}
use lib.ListN.{length}
use Rattle.std.proofs.Common.{Some}
use native.Mathlib.Decide.{dec_lt}
use native.Mathlib.Omega.{arith}
use Rattle.address.specs.declared.Region.{Region}
use Rattle.config_bytes.specs.Fields.{config_of, machines, count}
use Rattle.config_pairs.specs.Pairs.{FirstIn}
use Rattle.config.specs.Checking.{IsRight}
use Rattle.bitmap_tree.specs.Tree.{cap}
use Rattle.contents.specs.Contents.{frames_in, Backed}
use Rattle.claims.specs.declared.Unfit.{Unfit}
use Rattle.claims.specs.Fits.{Fits, Misfit}
use Rattle.zones.specs.Layout.{slots_in, Shaped, ShapeSays}
use Rattle.hv_start.specs.Starting.{Right, Roomy, Lent, Framed, Crowded, UnfitSays}

-- bytes that are right, beside any words
module _ (s : List ℕ) (n : ℕ) (r : IsRight s n) where
  pub right : (t : List ℕ) → length t ≡ 8325 → Right s t
  right t l = record { long = l; means = r.means; ok = r.ok }

  pub few_machines : n ≤ 64
  few_machines = let e = r.number in let l = r.means.readable.few in omega arith

  -- ---- the machines' words

  pub wrong_zones : (z : List ℕ) → (Shaped z n → ⊥) → Shaped z (machines s) → ⊥
  wrong_zones z f h = f (rw r.number h)

  module _ (z : List ℕ) (slots : ℕ) (x : ShapeSays z n (Some slots)) where
    slots_are : slots ≡ slots_in z (machines s)
    slots_are = x.1 ∙ ap (slots_in z) r.number

    shaped : Shaped z (machines s)
    shaped = subst (Shaped z) r.number x.0

    pub crowded : (m : ℕ) → FirstIn (λ k. count s k ≤ slots) (machines s) m → Crowded s z m
    crowded m h =
        record {
          shaped = shaped;
          machine = h.place;
          more = go (dec_lt slots (count s m));
          first = λ k l. let e = slots_are in let f = h.before k l in omega arith;
        }
      where
        go : Dec (slots < count s m) → slots_in z (machines s) < count s m
        go (yes l) = let e = slots_are in omega arith
        go (no l) = absurd (h.fails (omega (arith, l)))

    pub roomy : ((k : ℕ) → k < machines s → count s k ≤ slots) → Roomy s z
    roomy h = record { shaped = shaped; slots = λ k l. let e = slots_are in let f = h k l in omega arith }

  -- ---- the tree, the owners and the frames' words

  module _ (pool : Region) (pool_is : pool ≡ (config_of s).pool) where
    pub host_is : pool.host ≡ (config_of s).pool.host
    host_is = ap (λ (x : Region). x.host) pool_is

    pages_are : pool.pages ≡ (config_of s).pool.pages
    pages_are = ap (λ (x : Region). x.pages) pool_is

    pub unfit : (t o : List ℕ) (why : Unfit) → Misfit pool.host t o why → UnfitSays t o why
    unfit t o Unfit.NotFull x = x
    unfit t o Unfit.Unmatched x = x
    unfit t o Unfit.BadBase x = x.1 (rw host_is r.ok.pool_valid.on.host_start)

    module _ (t o w : List ℕ) (f : Fits pool.host t o) (b : Backed o w) where
      lent : Lent t o w
      lent = record { matched = f.matched; backed = b }

      pub few_frames : length o < pool.pages → Lent t o w × (cap t < (config_of s).pool.pages)
      few_frames l = (lent, let p = pages_are in let q = f.matched.bytes in omega arith)

      pub few_pages : pool.pages ≤ length o → pool.pages < frames_in w → Lent t o w × ((config_of s).pool.pages ≤ cap t) × ((config_of s).pool.pages < frames_in w)
      few_pages l h = let p = pages_are in let q = f.matched.bytes in (lent, omega arith, omega arith)

      pub framed : pool.pages ≤ length o → frames_in w ≤ pool.pages → Framed s t o w
      framed l h = let p = pages_are in let q = f.matched.bytes in record { lent = lent; pages = omega arith; frames = omega arith }
