-- Regions: when one is valid, and which host address a guest address stands for. Assumes nothing.
use Rattle.std.specs.Prelude.{◌≡◌, ℕ, ◌+◌, ◌-◌, ◌%◌, ◌^◌, ◌≤◌, ◌<◌, Result, Ok, Err}
use Rattle.address.specs.Pages.{Contains, Fits}
use Rattle.address.specs.declared.Fault.{Fault}
use Rattle.address.specs.declared.Untranslated.{Untranslated}

-- there is a page, and both starts are multiples of a page
pub record OnPages (guest host pages : ℕ) : Type 0 where
  pub some : 0 < pages
  pub guest_start : guest % 4096 ≡ 0
  pub host_start : host % 4096 ≡ 0

-- a region from guest to host of so many pages is valid: on pages, and neither end passes 2^64 - 1
pub record Valid (guest host pages : ℕ) : Type 0 where
  pub on : OnPages guest host pages
  pub guest_end : Fits guest pages
  pub host_end : Fits host pages

-- the region is valid, or breaks the named condition and none before it
abbrev pub ValiditySays : ℕ → ℕ → ℕ → Result Unit Fault → Type 0
ValiditySays guest host pages (Ok _) = Valid guest host pages
ValiditySays guest host pages (Err Fault.NoPage) = pages ≡ 0
ValiditySays guest host pages (Err Fault.GuestStart) = (0 < pages) × (guest % 4096 ≡ 0 → ⊥)
ValiditySays guest host pages (Err Fault.HostStart) = (0 < pages) × (guest % 4096 ≡ 0) × (host % 4096 ≡ 0 → ⊥)
ValiditySays guest host pages (Err Fault.GuestEnd) = OnPages guest host pages × (Fits guest pages → ⊥)
ValiditySays guest host pages (Err Fault.HostEnd) = OnPages guest host pages × Fits guest pages × (Fits host pages → ⊥)

-- the host address of a guest address: as far from the host start as addr is from the guest start
abbrev pub host_of : ℕ → ℕ → ℕ → ℕ
host_of guest host addr = host + (addr - guest)

abbrev pub TranslateSays : ℕ → ℕ → ℕ → ℕ → Result ℕ Untranslated → Type 0
TranslateSays guest host pages addr (Ok h) = Contains guest pages addr × (h ≡ host_of guest host addr)
TranslateSays guest host pages addr (Err Untranslated.Outside) = Contains guest pages addr → ⊥
TranslateSays guest host pages addr (Err Untranslated.Beyond) = Contains guest pages addr × (2 ^ 64 ≤ host_of guest host addr)
