-- What a view is, on either side. Assumes nothing.
use mathlib.Core.Path.{◌≡◌, ap}
use mathlib.Core.List.{List}
use Prim.Native.Nat.{ℕ, ◌+◌, ◌*◌, ◌≤◌, ◌<◌}
use native.Mathlib.Omega.{arith}
use lib.ListN.{length}
use Rattle.config_bytes.specs.Fields.{le16, machines, offset, count, Readable}
use Rattle.config_bytes.proofs.Laws.{offset_high, next_offset}
use Rattle.config_view.specs.View.{viewed, InView}
use Rattle.config_view.specs.declared.View.{View}

-- no count is beyond its limit
pub view_machines : (v : View) → InView v → (viewed v).machines ≤ 64
view_machines (View.Bytes s) r = r.few
view_machines (View.Table t) e = omega arith

pub view_count : (v : View) → InView v → (m : ℕ) → m < (viewed v).machines → (viewed v).count m ≤ 32
view_count (View.Bytes s) r m l = (r.parts m l).few
view_count (View.Table t) e m l = omega arith

-- machine m, whose fields start at `at`, in readable bytes
module _ {s : List ℕ} (r : Readable s) {m at : ℕ} (x : (m < machines s) × (at ≡ offset s m)) where
  pub bytes_count : le16 s (at + 2) ≡ count s m
  bytes_count = ap (λ (k : ℕ). le16 s (k + 2)) x.1

  pub bytes_room : at + (4 + 25 * le16 s (at + 2)) ≤ length s
  bytes_room = let w = (r.parts m x.0).whole in let e = next_offset s m at x.1 in omega arith

  pub bytes_low : at ≤ 51458
  bytes_low = let h = offset_high s r m (omega (arith, x.0)) in let f = r.few in omega (arith, x.0, x.1)

  pub bytes_region : {i : ℕ} → i < count s m → at + (4 + 25 * i) + 25 ≤ length s
  bytes_region h = omega (arith, bytes_room, bytes_count)
