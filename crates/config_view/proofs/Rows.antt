-- Going through a configuration machine by machine. Assumes nothing.
use mathlib.Core.Path.{◌≡◌}
use Prim.Native.Nat.{ℕ, suc, ◌+◌, ◌<◌}
use native.Mathlib.Numerals.{add-one}
use native.Mathlib.Omega.{arith}
use Rattle.base.specs.Search.{Everywhere}
use Rattle.base.proofs.Search.{row_more}
use Rattle.config_view.specs.View.{viewed, place}
use Rattle.config_view.specs.declared.View.{View}

-- P holds of every region of the machines before m, whose fields start at `at`
pub record Rows (v : View) (P : ℕ → ℕ → Type 0) (m at : ℕ) : Type 0 where
  pub start : at ≡ place v m
  pub rows : Everywhere P (viewed v).count m

pub rows_none : {v : View} {P : ℕ → ℕ → Type 0} {at : ℕ} → at ≡ place v 0 → Rows v P 0 at
rows_none e = record { start = e; rows = λ a b l h. absurd (omega arith) }

pub rows_more : {v : View} {P : ℕ → ℕ → Type 0} {m at to : ℕ} → Rows v P m at → ((b : ℕ) → b < (viewed v).count m → P m b) → to ≡ place v (suc m) → Rows v P (m + 1) to
rows_more r here e = record { start = rw add-one e; rows = row_more r.rows here }
