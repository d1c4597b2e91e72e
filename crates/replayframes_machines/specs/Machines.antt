-- What the exported functions of the machines say: that the request was served with an answer of which the result is the code, and what
-- stands behind the pointer its address. Assumes nothing.
use Rattle.std.specs.Prelude.{◌≡◌, List, ℕ, ◌≤◌, ◌<◌}
use Rattle.address.specs.declared.Region.{Region}
use Rattle.region_words.specs.Words.{kind_of}
use Rattle.codes.specs.Codes.{Coded, Valued, no_kind, no_set}
use Rattle.machine.specs.declared.Request.{Request}
use Rattle.machine.specs.declared.Answer.{Answer}
use Rattle.hv_state.specs.Memory.{Mem}
use Rattle.hv_state.specs.Serving.{Served, mem}
use Rattle.machine_codes.specs.Codes.{answer_code, address_in, which_of}

-- the request was served: the memories were b and are b', and r is the code of the answer
abbrev pub ServedCode : Mem → ℕ → Request → Mem → ℕ → Type 0
ServedCode b number q b' r = Coded (Served b number q b') answer_code r

-- the same, and the pointer holds the address of the answer, or what it held where the answer has none
abbrev pub ServedValue : Mem → ℕ → Request → Mem → ℕ → ℕ → ℕ → Type 0
ServedValue b number q b' old new r = Valued (Served b number q b') answer_code address_in old new r

-- the request was served with the table and the machines' words alone: whatever the others hold
abbrev pub ServedZones : List ℕ → List ℕ → ℕ → Request → List ℕ → Answer → Type 0
ServedZones table zones number q zones' a = (t o w : List ℕ) → Served (mem table zones t o w) number q (mem table zones' t o w) a

-- r is the code of the answer to such a request
abbrev pub ZonesCode : List ℕ → List ℕ → ℕ → Request → List ℕ → ℕ → Type 0
ZonesCode table zones number q zones' r = Coded (ServedZones table zones number q zones') answer_code r

-- r is the code of the answer to a request that the frames' own words are not needed for: whatever they hold
abbrev pub OwnersCode : List ℕ → List ℕ → List ℕ → List ℕ → ℕ → Request → List ℕ → ℕ → Type 0
OwnersCode table zones tree owners number q zones' r = Coded (λ a. (w : List ℕ) → Served (mem table zones tree owners w) number q (mem table zones' tree owners w) a) answer_code r

-- a request that names a kind or a set by a number: Answered where there is one with the number, and else r is the code `why`, and Kept
pub record Named (n last why r : ℕ) (Kept Answered : Type 0) : Type 0 where
  pub known : n ≤ last → Answered
  pub unknown : last < n → (r ≡ why) × Kept

-- the region with these fields, its kind by its number
abbrev pub region_with : ℕ → ℕ → ℕ → ℕ → Region
region_with guest host pages kind = record { guest = guest; host = host; pages = pages; kind = kind_of kind }

-- r is the code of the answer to a request about a region, or no kind has the number and the machines' words are kept
abbrev pub RegionCode : (Region → Request) → List ℕ → List ℕ → ℕ → ℕ → ℕ → ℕ → ℕ → List ℕ → ℕ → Type 0
RegionCode q table zones number guest host pages kind zones' r = Named kind 2 no_kind r (zones' ≡ zones) (ZonesCode table zones number (q (region_with guest host pages kind)) zones' r)

-- r is the code of the answer to a translation, and the pointer holds its address; or no set has the number, and it holds what it held
abbrev pub TranslateCode : List ℕ → List ℕ → ℕ → ℕ → ℕ → ℕ → ℕ → ℕ → Type 0
TranslateCode table zones number which addr old new r =
    Named which 1 no_set r (new ≡ old) (Valued (ServedZones table zones number (Request.Translate (which_of which) addr) zones) answer_code address_in old new r)
