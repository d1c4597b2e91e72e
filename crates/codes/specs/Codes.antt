-- The results of the exported functions: 0 or a reason. Assumes nothing.
use Rattle.std.specs.Prelude.{◌≡◌, ℕ}

-- it is done
abbrev pub done : ℕ
done = 0

-- so many words are no full tree
abbrev pub not_full : ℕ
not_full = 1

-- no full tree has so many frames
abbrev pub no_size : ℕ
no_size = 2

-- there is no such frame
abbrev pub outside : ℕ
outside = 3

-- the range or the run has no frame
abbrev pub empty : ℕ
empty = 4

-- the range ends before it starts
abbrev pub reversed : ℕ
reversed = 5

-- no frame, or no such run of frames, is free; or no slot of the set
abbrev pub no_room : ℕ
no_room = 6

-- the frame is free already
abbrev pub not_taken : ℕ
not_taken = 7

-- a summary does not agree with what it summarises, or the memories are not sound
abbrev pub corrupt : ℕ
corrupt = 8

-- there are not as many bytes of owners as frames
abbrev pub unmatched : ℕ
unmatched = 9

-- the base is no multiple of 4096
abbrev pub bad_base : ℕ
bad_base = 10

-- clients are numbered 0 to 63
abbrev pub no_client : ℕ
no_client = 11

-- the address is below the base
abbrev pub below : ℕ
below = 12

-- the address is not the first of a frame
abbrev pub not_at_frame : ℕ
not_at_frame = 13

-- the frame is another client's, or reserved
abbrev pub not_yours : ℕ
not_yours = 14

-- there are not so many frames
abbrev pub too_many : ℕ
too_many = 15

-- a frame would end past 2^64 - 1
abbrev pub too_high : ℕ
too_high = 16

-- a client owns the frame
abbrev pub taken : ℕ
taken = 17

-- the bit and the byte of the frame are not in order
abbrev pub wrong : ℕ
wrong = 18

-- the contents are not those of whole frames, or of more than there are
abbrev pub unbacked : ℕ
unbacked = 19

-- the frame has no contents
abbrev pub beyond : ℕ
beyond = 20

-- the frame is free and not empty
abbrev pub dirty : ℕ
dirty = 21

-- the words are not as many as a table has
abbrev pub no_table : ℕ
no_table = 45

-- no machine of the configuration has the number
abbrev pub no_machine : ℕ
no_machine = 48

-- the machine is there already
abbrev pub present : ℕ
present = 49

-- the machine is not there: it has not been added
abbrev pub not_present : ℕ
not_present = 50

-- the machine still has a region or a frame
abbrev pub not_empty : ℕ
not_empty = 51

-- the configuration does not give the machine that region
abbrev pub not_given : ℕ
not_given = 52

-- the region has a guest page in common with one of the set
abbrev pub overlap : ℕ
overlap = 53

-- that very region is not in the set
abbrev pub not_in_set : ℕ
not_in_set = 54

-- no region of the set has the guest address
abbrev pub not_mapped : ℕ
not_mapped = 55

-- kinds are numbered 0 to 2
abbrev pub no_kind : ℕ
no_kind = 56

-- sets are numbered 0 and 1
abbrev pub no_set : ℕ
no_set = 57

-- the machines' words are not as many as any number of slots gives
abbrev pub bad_zones : ℕ
bad_zones = 58

-- a machine is given more regions than a set has slots
abbrev pub few_slots : ℕ
few_slots = 59

-- the allocator's region has more pages than there are frames
abbrev pub pool_too_large : ℕ
pool_too_large = 60

-- more frames have contents than the allocator's region has pages
abbrev pub frames_too_many : ℕ
frames_too_many = 61

-- the bytes of a request mean no request
abbrev pub malformed : ℕ
malformed = 62

-- the bytes are no sequence of calls
abbrev pub broken : ℕ
broken = 63

-- the memory lent for replies or answers has too few words
abbrev pub few_words : ℕ
few_words = 64

-- the spare memory is not as long as the memory that it is to hold
abbrev pub bad_spare : ℕ
bad_spare = 65

-- there is no such region
abbrev pub no_region : ℕ
no_region = 66

-- there are more than 64 machines
abbrev pub many_machines : ℕ
many_machines = 67

-- a set has more than 32 slots
abbrev pub many_slots : ℕ
many_slots = 68

-- r is the code of an answer that says what is so
pub record Coded {A : Type 0} (Says : A → Type 0) (code : A → ℕ) (r : ℕ) : Type 0 where
  pub answer : A
  pub says : Says answer
  pub is : r ≡ code answer

-- the same, and the pointer, or the pointers together, hold the answer's value, or what they held where the answer has none
pub record Valued {A B : Type 0} (Says : A → Type 0) (code : A → ℕ) (value : A → B → B) (old new : B) (r : ℕ) : Type 0 where
  pub answer : A
  pub says : Says answer
  pub is : r ≡ code answer
  pub wrote : new ≡ value answer old
