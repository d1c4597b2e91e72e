-- A configuration in bytes, or in the words of a table. Assumes nothing.
use Rattle.std.specs.Prelude.{◌≡◌, ℕ, ◌*◌, length}
use Rattle.config_model.specs.Config.{Config}
use Rattle.config_bytes.specs.Fields.{config_of, offset, Readable}
use Rattle.config_view.specs.Table.{table_config}
use Rattle.config_view.specs.declared.View.{View}

-- the configuration
abbrev pub viewed : View → Config
viewed (View.Bytes s) = config_of s.now
viewed (View.Table t) = table_config t.now

-- where the fields of machine m start, and behind the last machine where those of the allocator's region do, in bytes
abbrev pub place : View → ℕ → ℕ
place (View.Bytes s) m = offset s.now m
place (View.Table t) m = 130 * m

-- there is a configuration to be read: the bytes are readable, or the table has its length
abbrev pub InView : View → Type 0
InView (View.Bytes s) = Readable s.now
InView (View.Table t) = length t.now ≡ 8325
