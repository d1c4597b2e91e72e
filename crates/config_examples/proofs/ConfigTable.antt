-- An example of every answer about the table of a configuration. Assumes nothing.
use mathlib.Core.Path.{◌≡◌, sym, ap, ◌∙◌}
use mathlib.Core.List.{[]}
use Prim.Native.Nat.{ℕ, ◌≤◌, ◌<◌}
use native.Mathlib.Omega.{arith}
use lib.Dec.{lit<, lit≤}
use lib.ListN.{length}
use Rattle.std.proofs.Common.{Some, None, Ok, Err}
use Rattle.address.specs.declared.Region.{Region}
use Rattle.config_view.specs.Table.{table_config}
use Rattle.config_table.specs.Holding.{MachinesSays, MachineSays, NumberSays, CountSays, RegionSays, PoolSays, GivenSays}
use Rattle.config_table.specs.declared.Unlisted.{Unlisted}
use Rattle.config_table.specs.declared.NoRegion.{NoRegion}
use Rattle.config_examples.proofs.Pairs.{below_one, below_two}
use Rattle.config_examples.proofs.Truck as truck
use Rattle.config_examples.proofs.Truck.{first, second, pool, table, long, machines_is, number_first, number_second, count_is, region_first, region_second}

-- no words are no table
no_words : length {A = ℕ} [] ≡ 8325 → ⊥
no_words e = omega (arith, e)

-- the truck has the machines 0 and 1, and no machine 2, and each has the region 0 and no region 1
machine_there : (m : ℕ) → m < 2 → m < (table_config table).machines
machine_there m l = rw machines_is l

no_third : (table_config table).machines ≤ 2
no_third = rw machines_is (lit≤ tt)

region_there : (m : ℕ) → m < 2 → 0 < (table_config table).count m
region_there m l = rw (count_is m l) (lit< tt)

-- ---- machines

pub machines_ok : MachinesSays table (Ok 2)
machines_ok = (long, sym machines_is)

pub machines_no_table : MachinesSays [] (Err (record {}))
machines_no_table = no_words

-- ---- machine

pub machine_ok : MachineSays table 9 (Ok 1)
machine_ok =
    (long, record { machine = machine_there 1 (lit< tt); is = number_second; first = below_one (λ k. (table_config table).number k ≡ 9 → ⊥) (λ e. let f = number_first in omega arith) })

pub machine_no_machine : MachineSays table 8 (Err Unlisted.NoMachine)
machine_no_machine =
    (long, λ k l. below_two (λ k. (table_config table).number k ≡ 8 → ⊥) (λ e. let f = number_first in omega arith) (λ e. let f = number_second in omega arith) k (rw (← machines_is) l))

pub machine_no_table : MachineSays [] 7 (Err Unlisted.NoTable)
machine_no_table = no_words

-- ---- number

pub number_ok : NumberSays table 0 (Ok 7)
number_ok = (long, machine_there 0 (lit< tt), sym number_first)

pub number_no_machine : NumberSays table 2 (Err Unlisted.NoMachine)
number_no_machine = (long, no_third)

pub number_no_table : NumberSays [] 0 (Err Unlisted.NoTable)
number_no_table = no_words

-- ---- count

pub count_ok : CountSays table 1 (Ok 1)
count_ok = (long, machine_there 1 (lit< tt), sym (count_is 1 (lit< tt)))

pub count_no_machine : CountSays table 2 (Err Unlisted.NoMachine)
count_no_machine = (long, no_third)

pub count_no_table : CountSays [] 0 (Err Unlisted.NoTable)
count_no_table = no_words

-- ---- region

pub region_ok : RegionSays table 1 0 (Ok second)
region_ok = (long, record { machine = machine_there 1 (lit< tt); region = region_there 1 (lit< tt); is = sym region_second })

pub region_no_machine : RegionSays table 2 0 (Err NoRegion.NoMachine)
region_no_machine = (long, no_third)

pub region_no_region : RegionSays table 1 1 (Err NoRegion.NoRegion)
region_no_region = (long, machine_there 1 (lit< tt), rw (count_is 1 (lit< tt)) (lit≤ tt))

pub region_no_table : RegionSays [] 0 0 (Err NoRegion.NoTable)
region_no_table = no_words

-- ---- pool

pub pool_ok : PoolSays table (Ok pool)
pool_ok = (long, sym truck.pool_is)

pub pool_no_table : PoolSays [] (Err (record {}))
pool_no_table = no_words

-- ---- is_given

pub is_given_some : GivenSays table 1 second (Ok (Some 0))
is_given_some = (
  long,
  record { is = record { machine = machine_there 1 (lit< tt); region = region_there 1 (lit< tt); is = sym region_second }; first = λ k l. absurd (omega arith) },
)

-- the first machine is not given the region of the second
pub is_given_none : GivenSays table 0 second (Ok None)
is_given_none = (long, machine_there 0 (lit< tt), λ k l. below_one (λ k. second ≡ (table_config table).region 0 k → ⊥) other k (rw (← count_is 0 (lit< tt)) l))
  where
    other : second ≡ (table_config table).region 0 0 → ⊥
    other e = let f = ap (λ (r : Region). r.host) (e ∙ region_first) in omega (arith, f)

pub is_given_no_machine : GivenSays table 2 first (Err Unlisted.NoMachine)
is_given_no_machine = (long, no_third)

pub is_given_no_table : GivenSays [] 0 first (Err Unlisted.NoTable)
is_given_no_table = no_words
