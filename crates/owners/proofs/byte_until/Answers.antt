-- `owners::byte_until` meets its contract. Assumes nothing.
use Prim.Native.Nat.{◌-◌}
use Rattle.std.specs.Prelude.{None, Some}
use Rattle.std.proofs.Common.{rules, tests, arith, ◌≡◌, ◌≢◌}
use Rattle.std.proofs.lemmas.Iterator.{IsFirst-from_position, YieldsList-from_slice}
use Rattle.base.proofs.Positions.{part, stops_position}
use Rattle.owners.proofs.byte_until.Goals as goal

pub returns-in-Some : goal.returns-in-Some
returns-in-Some c =
    let a = c.args in
    stops_position (λ x. x ≢ a.c) (λ x. x ≡ a.c) a.owners.now a.a (a.b - a.a) a.b 255 (Some c.in-Some.i) (omega arith) c.requires.1 (λ x u v. u v)
    (IsFirst-from_position _ _ (Some c.in-Some.i) (λ x. x ≢ a.c) (λ x. x ≡ a.c) c.in-Some.ensures.ran (YieldsList-from_slice (part a.owners.now a.a (a.b - a.a)) cc) (λ x q k. search (rules, tests)) (λ x q k. search (rules, tests)))

pub returns-in-None : goal.returns-in-None
returns-in-None c =
    let a = c.args in
    stops_position (λ x. x ≢ a.c) (λ x. x ≡ a.c) a.owners.now a.a (a.b - a.a) a.b 255 None (omega arith) c.requires.1 (λ x u v. u v)
    (IsFirst-from_position _ _ None (λ x. x ≢ a.c) (λ x. x ≡ a.c) c.in-None.ensures.ran (YieldsList-from_slice (part a.owners.now a.a (a.b - a.a)) cc) (λ x q k. search (rules, tests)) (λ x q k. search (rules, tests)))
