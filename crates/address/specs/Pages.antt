-- Ranges of pages, as sets of page numbers and of addresses. A page has 4096 bytes, and page k the addresses from 4096 k on.
-- Assumes nothing.
use Rattle.std.specs.Prelude.{◌≡◌, ℕ, ◌+◌, ◌*◌, ◌/◌, ◌^◌, ◌≤◌, ◌<◌, Option, Some, None}

-- addr is a multiple of size
pub record Multiple (size addr : ℕ) : Type 0 where
  pub times : ℕ
  pub is : addr ≡ times * size

-- page k is one of the pages from the page of start on
pub record InPages (start pages k : ℕ) : Type 0 where
  pub low : start / 4096 ≤ k
  pub high : k < start / 4096 + pages

-- some page is in both ranges
pub record Share (start1 pages1 start2 pages2 : ℕ) : Type 0 where
  pub page : ℕ
  pub first : InPages start1 pages1 page
  pub second : InPages start2 pages2 page

-- addr is one of the addresses of `pages` pages from start on
pub record Contains (start pages addr : ℕ) : Type 0 where
  pub low : start ≤ addr
  pub high : addr < start + 4096 * pages

-- the address behind the range is at most 2^64 - 1
abbrev pub Fits : ℕ → ℕ → Type 0
Fits start pages = start + 4096 * pages < 2 ^ 64

-- the address behind the range, or that it passes 2^64 - 1
abbrev pub EndSays : ℕ → ℕ → Option ℕ → Type 0
EndSays start pages (Some e) = Fits start pages × (e ≡ start + 4096 * pages)
EndSays start pages None = Fits start pages → ⊥
