-- `hv_check::judge` meets its contract. Assumes nothing.
use native.Mathlib.Omega.{arith}
use Prim.Native.Nat.{◌≤◌}
use Rattle.base.proofs.Says.{refused, not_refused}
use Rattle.config_view.specs.Table.{table_config}
use Rattle.hv_check.proofs.Laws.{place_within, machine_right, presence_wrong, processors_wrong, devices_wrong}
use Rattle.hv_check.proofs.judge.Goals as goal

pub returns-then-not-has_room : goal.returns-then-not-has_room
returns-then-not-has_room c = let f : (table_config c.args.table.now).count c.args.m ≤ c.args.slots → ⊥ = refused c.has_room.result c.if-not-has_room.true-raw c.has_room.ensures in omega (arith, f)

pub overflow_mul-place : goal.overflow_mul-place
overflow_mul-place c = let l = place_within c.args.zones.now c.args.slots c.args.m c.requires.2 in omega arith

pub overflow_add-place : goal.overflow_add-place
overflow_add-place c = let l = place_within c.args.zones.now c.args.slots c.args.m c.requires.2 in omega arith

pub overflow_mul-place-2 : goal.overflow_mul-place-2
overflow_mul-place-2 c = let l = place_within c.args.zones.now c.args.slots c.args.m c.requires.2 in record { fits = omega arith }

pub offset_bounds-zones-place : goal.offset_bounds-zones-place
offset_bounds-zones-place c = let l = place_within c.args.zones.now c.args.slots c.args.m c.requires.2 in omega arith

pub bounds-zones-place : goal.bounds-zones-place
bounds-zones-place c = let l = place_within c.args.zones.now c.args.slots c.args.m c.requires.2 in omega arith

pub returns-then-flag-gt1 : goal.returns-then-flag-gt1
returns-then-flag-gt1 c = presence_wrong (table_config c.args.table.now) c.args.zones.now c.args.slots c.args.m (not_refused c.has_room.result c.if-not-has_room.false-raw c.has_room.ensures) (omega arith)

pub is_right-requires : goal.is_right-requires
is_right-requires c = (c.requires.0, c.requires.1, place_within c.args.zones.now c.args.slots c.args.m c.requires.2)

pub returns-then-not-is_right : goal.returns-then-not-is_right
returns-then-not-is_right c = processors_wrong _ _ _ _ (not_refused c.has_room.result c.if-not-has_room.false-raw c.has_room.ensures) (omega arith) (refused c.is_right.result c.if-not-is_right.true-raw c.is_right.ensures)

pub is_right-requires-2 : goal.is_right-requires-2
is_right-requires-2 c = (c.requires.0, (let l = c.requires.1 in omega arith), place_within c.args.zones.now c.args.slots c.args.m c.requires.2)

pub returns-then-not-is_right-2 : goal.returns-then-not-is_right-2
returns-then-not-is_right-2 c = devices_wrong _ _ _ _ (not_refused c.has_room.result c.if-not-has_room.false-raw c.has_room.ensures) (omega arith) (not_refused c.is_right.result c.if-not-is_right.false-raw c.is_right.ensures) (refused c.is_right-2.result c.if-not-is_right-2.true-raw c.is_right-2.ensures)

pub returns : goal.returns
returns c = machine_right _ _ _ _ (not_refused c.has_room.result c.if-not-has_room.false-raw c.has_room.ensures) (omega arith) (not_refused c.is_right.result c.if-not-is_right.false-raw c.is_right.ensures) (not_refused c.is_right-2.result c.if-not-is_right-2.false-raw c.is_right-2.ensures)
