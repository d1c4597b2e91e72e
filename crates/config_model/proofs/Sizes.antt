-- A right configuration for every number of machines up to 64, of regions up to 32 of each, and of pages for the allocator. Assumes nothing.
use mathlib.Core.Path.{refl}
use Prim.Native.Nat.{ℕ, ◌+◌, ◌*◌, ◌^◌, ◌≤◌, ◌<◌}
use native.Mathlib.Omega.{arith}
use lib.Dec.{lit<}
use Rattle.address.specs.declared.Kind.{Kind}
use Rattle.address.specs.declared.Region.{Region}
use Rattle.config_model.specs.Config.{Config, ConfigOk}

-- an ordinary region of one page
abbrev page_at : ℕ → ℕ → Region
page_at guest host = record { guest = guest; host = host; pages = 1; kind = Kind.Ordinary }

-- machine m is known by m, and its region i is guest page i and host page 32 m + i; the allocator has the pages behind them all
abbrev pub sized : ℕ → (ℕ → ℕ) → ℕ → Config
sized n count pages =
    record {
      machines = n;
      number = λ m. m;
      count = count;
      region = λ m i. page_at (4096 * i) (4096 * (32 * m + i));
      pool = record { guest = 0; host = 8388608; pages = pages; kind = Kind.Ordinary };
    }

-- it is right
pub every_size : (n : ℕ) (count : ℕ → ℕ) (pages : ℕ) → n ≤ 64 → ((m : ℕ) → m < n → count m ≤ 32) → 0 < pages → 8388608 + 4096 * pages < 2 ^ 64 → ConfigOk (sized n count pages)
every_size n count pages few counts some high =
    record {
      numbers = λ m m' l l' e. e;
      valid =
          λ m i h.
          let a = h.machine in
          let b = h.region in
          let d = counts m a in
          record { on = record { some = lit< tt; guest_start = omega arith; host_start = omega arith }; guest_end = omega arith; host_end = omega arith };
      pool_valid = record { on = record { some = some; guest_start = refl; host_start = refl }; guest_end = omega arith; host_end = high };
      hosts =
          λ m i m' i' h h' d s.
          let a = h.region in
          let a' = h'.region in
          let b = counts m h.machine in
          let b' = counts m' h'.machine in
          let low = s.first.low in
          let high = s.first.high in
          let low' = s.second.low in
          let high' = s.second.high in absurd (d (omega arith) (omega arith));
      guests =
          λ m i i' h h' d s.
          let low = s.first.low in
          let high = s.first.high in
          let low' = s.second.low in
          let high' = s.second.high in d (omega arith);
      pool_alone =
          λ m i h s.
          let a = h.machine in
          let b = h.region in
          let e = counts m a in
          let low = s.first.low in
          let high = s.second.high in omega arith;
    }
