-- A call that was read is the one that was served. Assumes nothing.
use mathlib.Core.Path.{◌≡◌, sym, subst}
use mathlib.Core.List.{List}
use Prim.Native.Nat.{ℕ, ◌+◌, ◌*◌, ◌≤◌}
use lib.ListN.{length}
use native.Mathlib.Omega.{arith}
use Rattle.machine.specs.declared.Request.{Request}
use Rattle.request_bytes.specs.Requests.{request_at, nth_request, Means, MeansAll}
use Rattle.call_bytes.specs.Calls.{member_at, Several}
use Rattle.hv_state.specs.Memory.{Mem}
use Rattle.hv_lists.specs.Listing.{ListDone}
use Rattle.hv_calls.specs.Calling.{members_in, member_of}

module _ (s : List ℕ) (from len n : ℕ) (h : Several s from len n) where
  -- the members stand one behind the other
  place : (i : ℕ) → from + 1 + 33 * i ≡ member_at from i
  place i = omega arith

  pub members_mean : from + len ≤ length s → MeansAll s (from + 1) n
  members_mean l =
      let e = h.exact in
      record { within = omega arith; right = λ i k. subst (λ (p : ℕ). Means s p (request_at s p)) (sym (place i)) (h.right i k) }

  same_members : nth_request s (from + 1) ≡ member_of s from
  same_members = λ j i. request_at s (place i j)

  counted : n ≡ members_in len
  counted = let e = h.exact in omega arith

  pub as_several : Several s from len (members_in len)
  as_several = subst (λ (k : ℕ). Several s from len k) counted h

  -- what is said of the requests that were served is said of the members
  pub members_done : (b b' : Mem) (number : ℕ) (buffer : List ℕ) (at : ℕ) → ListDone b number (nth_request s (from + 1)) n b' buffer at
      → ListDone b number (member_of s from) (members_in len) b' buffer at
  members_done b b' number buffer at d =
      subst (λ (k : ℕ). ListDone b number (member_of s from) k b' buffer at) counted (subst (λ (f : ℕ → Request). ListDone b number f n b' buffer at) same_members d)
