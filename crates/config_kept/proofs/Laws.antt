-- A table and its parts. Assumes nothing.
use mathlib.Core.Path.{◌≡◌}
use mathlib.Core.Bool.{Bool, true, false}
use mathlib.Core.List.{List}
use Prim.Native.Nat.{ℕ, ◌<◌}
use lib.ListN.{length}
use Rattle.base.specs.Says.{Says}
use Rattle.config_model.specs.Config.{Config}
use Rattle.config_view.specs.Table.{Table}
use Rattle.config_write.specs.Writing.{MachineIn}
use Rattle.config_kept.specs.Kept.{EndIn}

-- where the last words are those of c, the words are its table if those of each machine are
pub table_said : {c : Config} {t : List ℕ} (b : Bool) → length t ≡ 8325 → EndIn c t → Says b ((m : ℕ) → m < 64 → MachineIn c m t) → Says b (Table c t)
table_said true l e each =
    record {
      long = l;
      machines = e.machines;
      pool = e.pool;
      number = λ m k. (each m k).number;
      count = λ m k. (each m k).count;
      region = λ m i k j. (each m k).regions i j;
    }
table_said false l e not = λ x. not (λ m k. record { number = x.number m k; count = x.count m k; regions = λ i h. x.region m i k h })
