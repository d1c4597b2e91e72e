-- An example of every answer of the functions on configurations. Assumes nothing.
use mathlib.Core.Path.{◌≡◌, refl, sym, ap, ◌∙◌}
use mathlib.Core.List.{List, [], ◌∷◌}
use Prim.Native.Nat.{ℕ, ◌≤◌, ◌<◌}
use Rattle.std.specs.Prelude.{Ok, Err}
use native.Mathlib.Omega.{arith}
use lib.Dec.{lit<, lit≤}
use lib.ListN.{replicate, length-replicate, get_or-replicate, get_or-eq_default}
use Rattle.base.proofs.Ranges.{zero_word}
use Rattle.address.specs.declared.Fault.{Fault}
use Rattle.address.specs.declared.Region.{Region}
use Rattle.config_model.specs.Config.{Config}
use Rattle.config_bytes.specs.Fields as fields
use Rattle.config_bytes.specs.Fields.{config_of}
use Rattle.config_bytes.specs.Reading as reading
use Rattle.config_view.specs.Table.{table_config}
use Rattle.config_encode.specs.Encoding.{start_of, size_of}
use Rattle.config_encode.proofs.Laws.{start_first, start_next}
use Rattle.config_rules.specs.Judging.{WrongSays}
use Rattle.config_rules.specs.declared.Reason.{Reason}
use Rattle.config.specs.declared.NotLoaded.{NotLoaded}
use Rattle.config.specs.declared.BadTable.{BadTable}
use Rattle.config.specs.declared.NotEncoded.{NotEncoded}
use Rattle.config.specs.Checking.{CheckSays}
use Rattle.config.specs.Loading.{LoadSays}
use Rattle.config.specs.Tables.{CheckTableSays}
use Rattle.config.specs.Encoding.{EncodeSays}
use Rattle.config.proofs.Laws.{wrong_bytes}
use Rattle.config_theorems.proofs.Round.{same_back, same_then, table_same}
use Rattle.config_theorems.proofs.Strings.{table_config_lem}
use Rattle.region_examples.proofs.Regions.{empty, guest_off, host_off, guest_high, host_high}
use Rattle.config_view.proofs.Tables.{table_of, table_of_lem}
use Rattle.config_examples.proofs.Pairs.{fork, two, one, below_two}
use Rattle.config_examples.proofs.Strings.{put16, put64, two_bytes, one_bytes, two_means, two_same, one_means, one_same}
use Rattle.config_examples.proofs.Truck.{first, second, bytes, means, bytes_same, ok, table, same, writable, loaded, machines_is, count_is, pool_valid}
use Rattle.config_examples.proofs.Alike.{wrong_too}
use Rattle.config_examples.proofs.Wrong as wrong

-- ---- check

pub check_ok : CheckSays bytes (Ok 2)
unfolding fields.le16
check_ok = record { means = means; ok = ok; number = refl }

-- what is wrong with a configuration is the answer to its bytes
module _ (n n' : ℕ) (a b : Region) (host pages : ℕ) (r : Reason) where
  two_refused : WrongSays (two n n' a b host pages) r → CheckSays (two_bytes n n' a b host pages) (Err r)
  two_refused w =
      wrong_bytes (two_bytes n n' a b host pages) r (two_means n n' a b host pages).readable (wrong_too (same_back (two_same n n' a b host pages)) r w)

one_refused : (n : ℕ) (a b : Region) (host pages : ℕ) (r : Reason) → WrongSays (one n a b host pages) r → CheckSays (one_bytes n a b host pages) (Err r)
one_refused n a b host pages r w =
    wrong_bytes (one_bytes n a b host pages) r (one_means n a b host pages).readable (wrong_too (same_back (one_same n a b host pages)) r w)

-- no bytes
pub check_too_short : CheckSays [] (Err (Reason.TooShort 0))
unfolding reading.read_of
check_too_short = refl

-- 65 machines
pub check_too_many_machines : CheckSays (put16 65 []) (Err Reason.TooManyMachines)
unfolding reading.read_of fields.le16
check_too_many_machines = refl

-- a machine with 33 regions
pub check_too_many_regions : CheckSays (put16 1 (put16 7 (put16 33 []))) (Err (Reason.TooManyRegions 0))
unfolding reading.read_of reading.machines_read reading.machine_read fields.le16
check_too_many_regions = refl

-- a region of kind 3
pub check_unknown_kind : CheckSays (put16 1 (put16 7 (put16 1 (put64 0 (put64 4096 (put64 1 (3 ∷ []))))))) (Err (Reason.UnknownKind 0 0))
unfolding reading.read_of reading.machines_read reading.machine_read reading.regions_read reading.region_read fields.le16
check_unknown_kind = refl

pub check_same_number : CheckSays (two_bytes 7 7 first second 65536 2) (Err (Reason.SameNumber 0 1))
check_same_number = two_refused 7 7 first second 65536 2 (Reason.SameNumber 0 1) wrong.same_number

pub check_not_valid_no_page : CheckSays (two_bytes 7 9 empty second 65536 2) (Err (Reason.NotValid 0 0 Fault.NoPage))
check_not_valid_no_page = two_refused 7 9 empty second 65536 2 (Reason.NotValid 0 0 Fault.NoPage) wrong.no_page

pub check_not_valid_guest_start : CheckSays (two_bytes 7 9 guest_off second 65536 2) (Err (Reason.NotValid 0 0 Fault.GuestStart))
check_not_valid_guest_start = two_refused 7 9 guest_off second 65536 2 (Reason.NotValid 0 0 Fault.GuestStart) wrong.guest_start

pub check_not_valid_host_start : CheckSays (two_bytes 7 9 host_off second 65536 2) (Err (Reason.NotValid 0 0 Fault.HostStart))
check_not_valid_host_start = two_refused 7 9 host_off second 65536 2 (Reason.NotValid 0 0 Fault.HostStart) wrong.host_start

pub check_not_valid_guest_end : CheckSays (two_bytes 7 9 guest_high second 65536 2) (Err (Reason.NotValid 0 0 Fault.GuestEnd))
check_not_valid_guest_end = two_refused 7 9 guest_high second 65536 2 (Reason.NotValid 0 0 Fault.GuestEnd) wrong.guest_end

pub check_not_valid_host_end : CheckSays (two_bytes 7 9 host_high second 65536 2) (Err (Reason.NotValid 0 0 Fault.HostEnd))
check_not_valid_host_end = two_refused 7 9 host_high second 65536 2 (Reason.NotValid 0 0 Fault.HostEnd) wrong.host_end

pub check_pool_not_valid_no_page : CheckSays (two_bytes 7 9 first second 65536 0) (Err (Reason.PoolNotValid Fault.NoPage))
check_pool_not_valid_no_page = two_refused 7 9 first second 65536 0 (Reason.PoolNotValid Fault.NoPage) wrong.pool_no_page

-- its guest start is as if it were 0
pub check_pool_not_valid_guest_start_never : (s : List ℕ) → CheckSays s (Err (Reason.PoolNotValid Fault.GuestStart)) → ⊥
check_pool_not_valid_guest_start_never s x = wrong.pool_not_for_guest (config_of s) x.1

pub check_pool_not_valid_host_start : CheckSays (two_bytes 7 9 first second 65537 2) (Err (Reason.PoolNotValid Fault.HostStart))
check_pool_not_valid_host_start = two_refused 7 9 first second 65537 2 (Reason.PoolNotValid Fault.HostStart) wrong.pool_host_start

pub check_pool_not_valid_guest_end : CheckSays (two_bytes 7 9 first second 65536 4503599627370496) (Err (Reason.PoolNotValid Fault.GuestEnd))
check_pool_not_valid_guest_end = two_refused 7 9 first second 65536 4503599627370496 (Reason.PoolNotValid Fault.GuestEnd) wrong.pool_guest_end

pub check_pool_not_valid_host_end : CheckSays (two_bytes 7 9 first second 18446744073709547520 2) (Err (Reason.PoolNotValid Fault.HostEnd))
check_pool_not_valid_host_end = two_refused 7 9 first second 18446744073709547520 2 (Reason.PoolNotValid Fault.HostEnd) wrong.pool_host_end

pub check_host_shared : CheckSays (two_bytes 7 9 first first 65536 2) (Err (Reason.HostShared 0 0 1 0))
check_host_shared = two_refused 7 9 first first 65536 2 (Reason.HostShared 0 0 1 0) wrong.host_shared

pub check_not_coinciding : CheckSays (two_bytes 7 9 (wrong.shared_at 0 2) (wrong.shared_at 0 1) 65536 2) (Err (Reason.NotCoinciding 0 0 1 0))
check_not_coinciding = two_refused 7 9 (wrong.shared_at 0 2) (wrong.shared_at 0 1) 65536 2 (Reason.NotCoinciding 0 0 1 0) wrong.not_coinciding

pub check_one_machine : CheckSays (one_bytes 7 (wrong.shared_at 0 1) (wrong.shared_at 4096 1) 65536 2) (Err (Reason.OneMachine 0 0 1))
check_one_machine = one_refused 7 (wrong.shared_at 0 1) (wrong.shared_at 4096 1) 65536 2 (Reason.OneMachine 0 0 1) wrong.one_machine

pub check_guest_shared : CheckSays (one_bytes 7 first second 65536 2) (Err (Reason.GuestShared 0 0 1))
check_guest_shared = one_refused 7 first second 65536 2 (Reason.GuestShared 0 0 1) wrong.guest_shared

pub check_pool_shared : CheckSays (two_bytes 7 9 first second 4096 1) (Err (Reason.PoolShared 0 0))
check_pool_shared = two_refused 7 9 first second 4096 1 (Reason.PoolShared 0 0) wrong.pool_shared

-- no machine, and a byte behind the allocator's region
pub check_left_over : CheckSays (put16 0 (put64 65536 (put64 2 (0 ∷ [])))) (Err (Reason.LeftOver 18))
unfolding fields.le64 fields.le32 fields.le16 fields.offset
check_left_over =
    record {
      readable = record { few = lit≤ tt; parts = λ m l. absurd (omega (arith, l)); pool = lit≤ tt };
      rules =
          record {
            numbers = λ a b l h. absurd (omega (arith, l));
            valid = λ a b l h. absurd (omega (arith, l));
            pool_valid = pool_valid;
            alone = λ a b l h. absurd (omega (arith, l));
            together = λ a b l h. absurd (omega (arith, l));
            clear = λ a b l h. absurd (omega (arith, l));
            off_pool = λ a b l h. absurd (omega (arith, l));
          };
      end = refl;
      more = lit< tt;
    }

-- ---- load

-- the words of a table before it is loaded
abbrev blank : List ℕ
blank = replicate 8325 0

pub load_ok : LoadSays bytes blank table (Ok 2)
load_ok = record { long = length-replicate {A = ℕ} 8325 0; right = check_ok; is = loaded }

-- what `check` refuses, `load` refuses
pub load_refused_each : (s : List ℕ) (r : Reason) → CheckSays s (Err r) → LoadSays s blank blank (Err (NotLoaded.Refused r))
load_refused_each s r x = (refl, length-replicate {A = ℕ} 8325 0, x)

pub load_no_table : LoadSays bytes [] [] (Err NotLoaded.NoTable)
load_no_table = (refl, λ e. omega (arith, e))

-- ---- check_table

pub check_table_ok : CheckTableSays table (Ok 2)
check_table_ok = (writable, sym machines_is)

-- words that are all 1, of which the guest start of the allocator's region is one
abbrev ones : List ℕ
ones = replicate 8325 1

pub check_table_stray : CheckTableSays ones (Err BadTable.Stray)
check_table_stray = (length-replicate {A = ℕ} 8325 1, λ x. let e = x.pool.guest in let f = get_or-replicate {A = ℕ} 8325 8321 1 0 (lit< tt) in omega arith)

-- what is wrong with a configuration is the answer to its table
table_refused : (c : Config) (r : Reason) → c.machines ≤ 64 → ((m : ℕ) → m < c.machines → c.count m ≤ 32) → ((m : ℕ) → m < c.machines → c.number m < 65536) → WrongSays c r
    → CheckTableSays (table_of c) (Err (BadTable.Refused r))
table_refused c r few counts numbers w =
    let s = same_back (table_config_lem c (table_of c) few counts numbers (table_of_lem c)) in (table_same s (table_of c) (table_of_lem c), wrong_too s r w)

two_table : (n n' : ℕ) (a b : Region) (host pages : ℕ) (r : Reason) → n < 65536 → n' < 65536 → WrongSays (two n n' a b host pages) r
    → CheckTableSays (table_of (two n n' a b host pages)) (Err (BadTable.Refused r))
two_table n n' a b host pages r l l' = table_refused (two n n' a b host pages) r (lit≤ tt) (λ m h. lit≤ tt) (below_two (λ m. fork n n' m < 65536) l l')

one_table : (n : ℕ) (a b : Region) (host pages : ℕ) (r : Reason) → n < 65536 → WrongSays (one n a b host pages) r → CheckTableSays (table_of (one n a b host pages)) (Err (BadTable.Refused r))
one_table n a b host pages r l = table_refused (one n a b host pages) r (lit≤ tt) (λ m h. lit≤ tt) (λ m h. l)

-- a table has all its fields, none of them too great, and no kind that there is not, and nothing behind them
pub check_table_refused_too_short_never : (t : List ℕ) (at : ℕ) → CheckTableSays t (Err (BadTable.Refused (Reason.TooShort at))) → ⊥
check_table_refused_too_short_never t at x = x.1

pub check_table_refused_too_many_machines_never : (t : List ℕ) → CheckTableSays t (Err (BadTable.Refused Reason.TooManyMachines)) → ⊥
check_table_refused_too_many_machines_never t x = x.1

pub check_table_refused_too_many_regions_never : (t : List ℕ) (m : ℕ) → CheckTableSays t (Err (BadTable.Refused (Reason.TooManyRegions m))) → ⊥
check_table_refused_too_many_regions_never t m x = x.1

pub check_table_refused_unknown_kind_never : (t : List ℕ) (m i : ℕ) → CheckTableSays t (Err (BadTable.Refused (Reason.UnknownKind m i))) → ⊥
check_table_refused_unknown_kind_never t m i x = x.1

pub check_table_refused_left_over_never : (t : List ℕ) (at : ℕ) → CheckTableSays t (Err (BadTable.Refused (Reason.LeftOver at))) → ⊥
check_table_refused_left_over_never t at x = x.1

pub check_table_refused_same_number : CheckTableSays (table_of wrong.twins) (Err (BadTable.Refused (Reason.SameNumber 0 1)))
check_table_refused_same_number = two_table 7 7 first second 65536 2 (Reason.SameNumber 0 1) (lit< tt) (lit< tt) wrong.same_number

pub check_table_refused_not_valid_no_page : CheckTableSays (table_of (wrong.bad empty)) (Err (BadTable.Refused (Reason.NotValid 0 0 Fault.NoPage)))
check_table_refused_not_valid_no_page = two_table 7 9 empty second 65536 2 (Reason.NotValid 0 0 Fault.NoPage) (lit< tt) (lit< tt) wrong.no_page

pub check_table_refused_not_valid_guest_start : CheckTableSays (table_of (wrong.bad guest_off)) (Err (BadTable.Refused (Reason.NotValid 0 0 Fault.GuestStart)))
check_table_refused_not_valid_guest_start = two_table 7 9 guest_off second 65536 2 (Reason.NotValid 0 0 Fault.GuestStart) (lit< tt) (lit< tt) wrong.guest_start

pub check_table_refused_not_valid_host_start : CheckTableSays (table_of (wrong.bad host_off)) (Err (BadTable.Refused (Reason.NotValid 0 0 Fault.HostStart)))
check_table_refused_not_valid_host_start = two_table 7 9 host_off second 65536 2 (Reason.NotValid 0 0 Fault.HostStart) (lit< tt) (lit< tt) wrong.host_start

pub check_table_refused_not_valid_guest_end : CheckTableSays (table_of (wrong.bad guest_high)) (Err (BadTable.Refused (Reason.NotValid 0 0 Fault.GuestEnd)))
check_table_refused_not_valid_guest_end = two_table 7 9 guest_high second 65536 2 (Reason.NotValid 0 0 Fault.GuestEnd) (lit< tt) (lit< tt) wrong.guest_end

pub check_table_refused_not_valid_host_end : CheckTableSays (table_of (wrong.bad host_high)) (Err (BadTable.Refused (Reason.NotValid 0 0 Fault.HostEnd)))
check_table_refused_not_valid_host_end = two_table 7 9 host_high second 65536 2 (Reason.NotValid 0 0 Fault.HostEnd) (lit< tt) (lit< tt) wrong.host_end

pub check_table_refused_pool_not_valid_no_page : CheckTableSays (table_of (wrong.bad_pool 65536 0)) (Err (BadTable.Refused (Reason.PoolNotValid Fault.NoPage)))
check_table_refused_pool_not_valid_no_page = two_table 7 9 first second 65536 0 (Reason.PoolNotValid Fault.NoPage) (lit< tt) (lit< tt) wrong.pool_no_page

pub check_table_refused_pool_not_valid_guest_start_never : (t : List ℕ) → CheckTableSays t (Err (BadTable.Refused (Reason.PoolNotValid Fault.GuestStart))) → ⊥
check_table_refused_pool_not_valid_guest_start_never t x = wrong.pool_not_for_guest (table_config t) x.1

pub check_table_refused_pool_not_valid_host_start : CheckTableSays (table_of (wrong.bad_pool 65537 2)) (Err (BadTable.Refused (Reason.PoolNotValid Fault.HostStart)))
check_table_refused_pool_not_valid_host_start = two_table 7 9 first second 65537 2 (Reason.PoolNotValid Fault.HostStart) (lit< tt) (lit< tt) wrong.pool_host_start

pub check_table_refused_pool_not_valid_guest_end : CheckTableSays (table_of (wrong.bad_pool 65536 4503599627370496)) (Err (BadTable.Refused (Reason.PoolNotValid Fault.GuestEnd)))
check_table_refused_pool_not_valid_guest_end = two_table 7 9 first second 65536 4503599627370496 (Reason.PoolNotValid Fault.GuestEnd) (lit< tt) (lit< tt) wrong.pool_guest_end

pub check_table_refused_pool_not_valid_host_end : CheckTableSays (table_of (wrong.bad_pool 18446744073709547520 2)) (Err (BadTable.Refused (Reason.PoolNotValid Fault.HostEnd)))
check_table_refused_pool_not_valid_host_end = two_table 7 9 first second 18446744073709547520 2 (Reason.PoolNotValid Fault.HostEnd) (lit< tt) (lit< tt) wrong.pool_host_end

pub check_table_refused_host_shared : CheckTableSays (table_of wrong.greedy) (Err (BadTable.Refused (Reason.HostShared 0 0 1 0)))
check_table_refused_host_shared = two_table 7 9 first first 65536 2 (Reason.HostShared 0 0 1 0) (lit< tt) (lit< tt) wrong.host_shared

pub check_table_refused_not_coinciding : CheckTableSays (table_of wrong.partly) (Err (BadTable.Refused (Reason.NotCoinciding 0 0 1 0)))
check_table_refused_not_coinciding =
    two_table 7 9 (wrong.shared_at 0 2) (wrong.shared_at 0 1) 65536 2 (Reason.NotCoinciding 0 0 1 0) (lit< tt) (lit< tt) wrong.not_coinciding

pub check_table_refused_one_machine : CheckTableSays (table_of wrong.twice) (Err (BadTable.Refused (Reason.OneMachine 0 0 1)))
check_table_refused_one_machine = one_table 7 (wrong.shared_at 0 1) (wrong.shared_at 4096 1) 65536 2 (Reason.OneMachine 0 0 1) (lit< tt) wrong.one_machine

pub check_table_refused_guest_shared : CheckTableSays (table_of wrong.folded) (Err (BadTable.Refused (Reason.GuestShared 0 0 1)))
check_table_refused_guest_shared = one_table 7 first second 65536 2 (Reason.GuestShared 0 0 1) (lit< tt) wrong.guest_shared

pub check_table_refused_pool_shared : CheckTableSays (table_of wrong.taken) (Err (BadTable.Refused (Reason.PoolShared 0 0)))
check_table_refused_pool_shared = two_table 7 9 first second 4096 1 (Reason.PoolShared 0 0) (lit< tt) (lit< tt) wrong.pool_shared

pub check_table_no_table : CheckTableSays [] (Err BadTable.NoTable)
check_table_no_table e = omega (arith, e)

-- ---- encode

-- the truck takes 76 bytes
size : 76 ≡ size_of (table_config table)
size =
    let e = start_first (table_config table) in
    let f = start_next (table_config table) 0 in
    let g = start_next (table_config table) 1 in
    let a = count_is 0 (lit< tt) in
    let b = count_is 1 (lit< tt) in
    let k = ap (start_of (table_config table)) machines_is in omega arith

pub encode_ok : EncodeSays table (replicate 76 0) bytes (Ok 76)
encode_ok =
    record {
      writable = writable;
      size = size;
      room = lit≤ tt;
      means = means;
      same = same_then bytes_same (same_back same);
      long = refl;
      rest = λ k l. get_or-eq_default bytes 0 l ∙ sym (zero_word 76 k);
    }

pub encode_no_room : EncodeSays table [] [] (Err (NotEncoded.NoRoom 76))
encode_no_room = record { kept = refl; writable = writable; size = size; short = lit< tt }

pub encode_table_stray : EncodeSays ones [] [] (Err (NotEncoded.Table BadTable.Stray))
encode_table_stray = (refl, check_table_stray)

-- what `check_table` refuses, `encode` refuses
pub encode_table_refused_each : (t o : List ℕ) (r : Reason) → CheckTableSays t (Err (BadTable.Refused r)) → EncodeSays t o o (Err (NotEncoded.Table (BadTable.Refused r)))
encode_table_refused_each t o r x = (refl, x)

pub encode_table_no_table : EncodeSays [] [] [] (Err (NotEncoded.Table BadTable.NoTable))
encode_table_no_table = (refl, check_table_no_table)
