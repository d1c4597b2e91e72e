-- Where a frame stands, for a base. Assumes nothing.
use Rattle.std.specs.Prelude.{◌≡◌, ℕ, ◌+◌, ◌*◌, ◌%◌, ◌^◌, ◌≤◌, ◌<◌, Result, Ok, Err}
use Rattle.claims.specs.declared.NotAFrame.{NotAFrame}
use Rattle.claims.specs.Returns.{Between}
use Rattle.global_allocator.specs.declared.NoFid.{NoFid}
use Rattle.global_allocator.specs.declared.NoFid.TheVariants.{Below as below, NotAtFrame as not_at_frame}
use Rattle.global_allocator.specs.declared.NoPaddr.{NoPaddr}

-- no frame at an address, as a reason why it has no frame's number
abbrev pub no_fid : NotAFrame → NoFid
no_fid NotAFrame.Below = below
no_fid NotAFrame.NotAtFrame = not_at_frame

-- the frame whose first address it is
abbrev pub FidSays : ℕ → ℕ → Result ℕ NoFid → Type 0
FidSays base addr (Ok k) = (base % 4096 ≡ 0) × (addr ≡ base + 4096 * k)
FidSays base addr (Err NoFid.BadBase) = base % 4096 ≡ 0 → ⊥
FidSays base addr (Err NoFid.Below) = (base % 4096 ≡ 0) × (addr < base)
FidSays base addr (Err NoFid.NotAtFrame) = (base % 4096 ≡ 0) × Between base addr

-- the frame's first address
abbrev pub PaddrSays : ℕ → ℕ → Result ℕ NoPaddr → Type 0
PaddrSays base k (Ok addr) = (base % 4096 ≡ 0) × (addr ≡ base + 4096 * k)
PaddrSays base k (Err NoPaddr.BadBase) = base % 4096 ≡ 0 → ⊥
PaddrSays base k (Err NoPaddr.TooHigh) = (base % 4096 ≡ 0) × (2 ^ 64 ≤ base + 4096 * k)
