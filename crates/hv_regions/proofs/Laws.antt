-- What a set answers serves the machine's request. Assumes nothing.
use mathlib.Core.Path.{◌≡◌, refl, sym, subst}
use mathlib.Core.List.{List}
use Prim.Native.Nat.{ℕ}
use native.Mathlib.Omega.{arith}
use Rattle.std.specs.Prelude.{Ok, Err}
use Rattle.std.proofs.Common.{Ok, Err, Some}
use Rattle.address.specs.declared.Region.{Region}
use Rattle.config_table.specs.declared.Unlisted.{Unlisted}
use Rattle.config_table.specs.Holding.{GivenSays}
use Rattle.set_claims.specs.declared.Bad.{Bad}
use Rattle.set_claims.specs.declared.NotInserted.{NotInserted}
use Rattle.memory_set.specs.declared.NotMapped.{NotMapped}
use Rattle.memory_set.specs.Looks.{TranslateSays}
use Rattle.memory_set_changes.specs.declared.NotRemoved.{NotRemoved}
use Rattle.memory_set_changes.specs.Changes.{InsertSays, RemoveSays}
use Rattle.machine.specs.declared.Which.{Which}
use Rattle.machine.specs.declared.Request.{Request}
use Rattle.machine.specs.declared.Request.TheVariants.{Insert, Remove, Translate}
use Rattle.machine.specs.declared.Reason.{Reason}
use Rattle.machine.specs.declared.Answer.{Answer}
use Rattle.hv_state.specs.Serving.{Served, mem}
use Rattle.hv_state.proofs.Serving.{unsound}
use Rattle.hv_sets.specs.declared.Spot.{Spot}
use Rattle.hv_sets.specs.Asked.{IsSpot, of_not_inserted}
use Rattle.hv_sets.proofs.Laws.{as_set, no_set_lem, not_inserted, inserted, not_there, removed, translated, untranslated}

module _ (t z : List ℕ) (number : ℕ) (w : Which) (spot : Spot) (is : IsSpot t z number w spot) where
  -- a request that is refused and leaves the machines' words
  left : (tr o v z' : List ℕ) (q : Request) (a a' : Answer) → z' ≡ z → a' ≡ a → Served (mem t z tr o v) number q (mem t z tr o v) a → Served (mem t z tr o v) number q (mem t z' tr o v) a'
  left tr o v z' q a a' e f s = subst (λ (x : Answer). Served (mem t z tr o v) number q (mem t z' tr o v) x) (sym f) (subst (λ (x : List ℕ). Served (mem t z tr o v) number q (mem t x tr o v) a) (sym e) s)

  module _ (r : Region) where
    -- no table, or no such machine: the memories are not sound
    pub not_listed : (tr o v : List ℕ) (why : Unlisted) → GivenSays t spot.index r (Err why) → Served (mem t z tr o v) number (Insert w r) (mem t z tr o v) Answer.Corrupt
    not_listed tr o v Unlisted.NoTable g = unsound (mem t z tr o v) number (Insert w r) Answer.Corrupt (λ s. g s.table.table.long)
    not_listed tr o v Unlisted.NoMachine g = unsound (mem t z tr o v) number (Insert w r) Answer.Corrupt (λ s. let l = g.1 in let e = is.index in let h = is.here.machine in omega arith)

    pub entered : (tr o v z' : List ℕ) (i : ℕ) → GivenSays t spot.index r (Ok (Some i)) → InsertSays z spot.at spot.slots r z' (Ok tt) → Served (mem t z tr o v) number (Insert w r) (mem t z' tr o v) Answer.Done
    entered tr o v z' i g d = inserted t z number w spot is r i g tr o v z' (as_set t z number w spot is (λ at slots. InsertSays z at slots r z' (Ok tt)) d)

    pub kept_out : (tr o v z' : List ℕ) (i : ℕ) (why : NotInserted) (a : Answer) → GivenSays t spot.index r (Ok (Some i)) → InsertSays z spot.at spot.slots r z' (Err why) → a ≡ of_not_inserted why → Served (mem t z tr o v) number (Insert w r) (mem t z' tr o v) a
    kept_out tr o v z' i why a g d e = left tr o v z' (Insert w r) (of_not_inserted why) a d.0 e (not_inserted t z number w spot is r i g tr o v why (as_set t z number w spot is (λ at slots. InsertSays z at slots r z' (Err why)) d).1)

    pub went : (tr o v z' : List ℕ) → RemoveSays z spot.at spot.slots r z' (Ok tt) → Served (mem t z tr o v) number (Remove w r) (mem t z' tr o v) Answer.Done
    went tr o v z' d = removed t z number w spot is r tr o v z' (as_set t z number w spot is (λ at slots. RemoveSays z at slots r z' (Ok tt)) d)

    pub was_not : (tr o v z' : List ℕ) → RemoveSays z spot.at spot.slots r z' (Err NotRemoved.NotThere) → Served (mem t z tr o v) number (Remove w r) (mem t z' tr o v) (Answer.No Reason.NotInSet)
    was_not tr o v z' d = left tr o v z' (Remove w r) (Answer.No Reason.NotInSet) (Answer.No Reason.NotInSet) d.0 refl (not_there t z number w spot is r tr o v (as_set t z number w spot is (λ at slots. RemoveSays z at slots r z' (Err NotRemoved.NotThere)) d).2)

    pub no_set_there : (tr o v z' : List ℕ) (why : Bad) → RemoveSays z spot.at spot.slots r z' (Err (NotRemoved.Bad why)) → Served (mem t z tr o v) number (Remove w r) (mem t z' tr o v) Answer.Corrupt
    no_set_there tr o v z' why d = left tr o v z' (Remove w r) Answer.Corrupt Answer.Corrupt d.0 refl (no_set_lem t z number w spot is tr o v (Remove w r) why (as_set t z number w spot is (λ at slots. RemoveSays z at slots r z' (Err (NotRemoved.Bad why))) d).1)

  pub host_found : (tr o v : List ℕ) (addr h : ℕ) → TranslateSays z spot.at spot.slots addr (Ok h) → Served (mem t z tr o v) number (Translate w addr) (mem t z tr o v) (Answer.Address h)
  host_found tr o v addr h d = translated t z number w spot is tr o v addr h (as_set t z number w spot is (λ at slots. TranslateSays z at slots addr (Ok h)) d)

  pub host_none : (tr o v : List ℕ) (addr : ℕ) → TranslateSays z spot.at spot.slots addr (Err NotMapped.NoRegion) → Served (mem t z tr o v) number (Translate w addr) (mem t z tr o v) (Answer.No Reason.NotMapped)
  host_none tr o v addr d = untranslated t z number w spot is tr o v addr (as_set t z number w spot is (λ at slots. TranslateSays z at slots addr (Err NotMapped.NoRegion)) d)

  pub host_bad : (tr o v : List ℕ) (addr : ℕ) (why : Bad) → TranslateSays z spot.at spot.slots addr (Err (NotMapped.Bad why)) → Served (mem t z tr o v) number (Translate w addr) (mem t z tr o v) Answer.Corrupt
  host_bad tr o v addr why d = no_set_lem t z number w spot is tr o v (Translate w addr) why (as_set t z number w spot is (λ at slots. TranslateSays z at slots addr (Err (NotMapped.Bad why))) d)
