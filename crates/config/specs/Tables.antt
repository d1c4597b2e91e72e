-- What `check_table` answers of words t, whatever they are: `table_config` is the configuration in any words. Assumes nothing.
use Rattle.std.specs.Prelude.{◌≡◌, List, ℕ, length, Result, Ok, Err}
use Rattle.config_model.specs.Config.{ConfigOk}
use Rattle.config_view.specs.Table.{Table, table_config}
use Rattle.config_rules.specs.Judging.{WrongSays}
use Rattle.config.specs.declared.BadTable.{BadTable}

-- t is a table that `load` writes: every word is as it is written, and the configuration is right
pub record Writable (t : List ℕ) : Type 0 where
  pub table : Table (table_config t) t
  pub ok : ConfigOk (table_config t)

abbrev pub CheckTableSays : List ℕ → Result ℕ BadTable → Type 0
CheckTableSays t (Ok n) = Writable t × (n ≡ (table_config t).machines)
CheckTableSays t (Err BadTable.Stray) = (length t ≡ 8325) × (Table (table_config t) t → ⊥)
CheckTableSays t (Err (BadTable.Refused r)) = Table (table_config t) t × WrongSays (table_config t) r
CheckTableSays t (Err BadTable.NoTable) = length t ≡ 8325 → ⊥
