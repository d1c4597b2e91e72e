-- The truck of the examples: machines 7 and 9 are each given one ordinary region of one page, and the allocator has two pages. Its bytes and
-- its table, and what each field of the table is. Assumes nothing.
use mathlib.Core.Path.{◌≡◌, refl}
use mathlib.Core.List.{List}
use Prim.Native.Nat.{ℕ, ◌<◌}
use native.Mathlib.Omega.{arith}
use lib.Dec.{lit<, lit≤}
use lib.ListN.{length}
use Rattle.address.specs.declared.Kind.{Kind}
use Rattle.address.specs.declared.Region.{Region}
use Rattle.address.specs.Regions.{Valid}
use Rattle.region_words.specs.Words.{region_of}
use Rattle.region_words.proofs.Laws.{region_back}
use Rattle.config_model.specs.Config.{Config, HostMeets, ConfigOk, Same}
use Rattle.config_bytes.specs.Fields.{config_of, Means}
use Rattle.config_view.specs.Table.{Table, table_config}
use Rattle.config.specs.Tables.{Writable}
use Rattle.config_theorems.proofs.Round.{same_back, ok_same, table_same}
use Rattle.config_theorems.proofs.Strings.{table_config_lem}
use Rattle.config_view.proofs.Tables.{table_of, table_of_lem}
use Rattle.config_examples.proofs.Pairs.{fork, pool_at, two, below_two, two_ok}
use Rattle.config_examples.proofs.Strings.{two_bytes, two_means, two_same}

-- the regions of the two machines, and the allocator's
abbrev pub first : Region
first = record { guest = 0; host = 4096; pages = 1; kind = Kind.Ordinary }

abbrev pub second : Region
second = record { guest = 0; host = 8192; pages = 1; kind = Kind.Ordinary }

abbrev pub pool : Region
pool = pool_at 65536 2

-- the configuration
abbrev pub truck : Config
truck = two 7 9 first second 65536 2

-- its regions are valid
pub first_valid : Valid 0 4096 1
first_valid = record { on = record { some = lit< tt; guest_start = refl; host_start = refl }; guest_end = lit< tt; host_end = lit< tt }

pub second_valid : Valid 0 8192 1
second_valid = record { on = record { some = lit< tt; guest_start = refl; host_start = refl }; guest_end = lit< tt; host_end = lit< tt }

pub pool_valid : Valid 0 65536 2
pool_valid = record { on = record { some = lit< tt; guest_start = refl; host_start = refl }; guest_end = lit< tt; host_end = lit< tt }

-- the two machines have no host page in common
pub apart : HostMeets first second → ⊥
apart s = let x = s.first.high in let y = s.second.low in omega arith

-- it is right
pub truck_ok : ConfigOk truck
truck_ok =
    two_ok 7 9 first second 65536 2 (λ e. omega (arith, e)) first_valid second_valid pool_valid apart
    (λ s. let x = s.first.low in let y = s.second.high in omega arith)
    (λ s. let x = s.first.low in let y = s.second.high in omega arith)

-- its bytes
abbrev pub bytes : List ℕ
bytes = two_bytes 7 9 first second 65536 2

-- they mean the truck, which is right
pub means : Means bytes
means = two_means 7 9 first second 65536 2

pub bytes_same : Same (config_of bytes) truck
bytes_same = two_same 7 9 first second 65536 2

pub ok : ConfigOk (config_of bytes)
ok = ok_same (same_back bytes_same) truck_ok

-- its table
unfoldable pub table : List ℕ
table = table_of truck

-- it is the truck's
holds : Table truck table
unfolding table
holds = table_of_lem truck

-- how long it is
pub long : length table ≡ 8325
long = holds.long

-- the configuration in the table is the truck's
pub same : Same (table_config table) truck
same = table_config_lem truck table (lit≤ tt) (λ m l. lit≤ tt) (below_two (λ m. fork 7 9 m < 65536) (lit< tt) (lit< tt)) holds

-- it is one that `load` writes
pub writable : Writable table
writable = record { table = table_same (same_back same) table holds; ok = ok_same (same_back same) truck_ok }

-- it is the table of what the bytes mean
pub loaded : Table (config_of bytes) table
loaded = table_same (same_back bytes_same) table holds

-- ---- its fields

pub machines_is : (table_config table).machines ≡ 2
machines_is = same.machines

pub number_first : (table_config table).number 0 ≡ 7
number_first = same.number 0 (rw machines_is (lit< tt))

pub number_second : (table_config table).number 1 ≡ 9
number_second = same.number 1 (rw machines_is (lit< tt))

pub count_is : (m : ℕ) → m < 2 → (table_config table).count m ≡ 1
count_is m l = same.count m (rw machines_is l)

pub region_first : (table_config table).region 0 0 ≡ first
region_first = same.region 0 0 (rw machines_is (lit< tt)) (rw (count_is 0 (lit< tt)) (lit< tt))

pub region_second : (table_config table).region 1 0 ≡ second
region_second = same.region 1 0 (rw machines_is (lit< tt)) (rw (count_is 1 (lit< tt)) (lit< tt))

pub pool_is : (table_config table).pool ≡ pool
unfolding region_of
pool_is = region_back table 8321 pool holds.pool
