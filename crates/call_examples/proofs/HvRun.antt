-- An example of every answer to a sequence of calls in bytes. Assumes nothing.
use mathlib.Core.Path.{refl, subst}
use mathlib.Core.List.{List, [], ◌∷◌}
use Prim.Native.Nat.{ℕ, ◌≤◌}
use native.Mathlib.Omega.{arith}
use lib.Dec.{lit<, lit≤}
use Rattle.base.proofs.Ranges.{only_none}
use Rattle.config_bytes.specs.Fields.{le16, le32, le64}
use Rattle.machine.specs.declared.Request.{Request}
use Rattle.machine.specs.declared.Request.TheVariants.{AddZone}
use Rattle.machine.specs.declared.Answer.{Answer}
use Rattle.std.specs.Prelude.{Some, Ok, Err}
use Rattle.request_bytes.specs.Requests.{numbers_at, request_of, request_at, Means, ReadSays}
use Rattle.call_bytes.specs.Calls.{is_list}
use Rattle.call_bytes.specs.Framing.{item_at, behind, Framed.Ends, Framed.Goes, Breaks.Here}
use Rattle.hv_state.specs.Serving.{Served}
use Rattle.hv_state.proofs.Serving.{one_served}
use Rattle.hv_calls.specs.declared.Replied.{Replied}
use Rattle.hv_calls.specs.Calling.{ReplySays}
use Rattle.run_items.specs.Running.{Performed.Over, Performed.Next}
use Rattle.hv_run.specs.declared.NotRun.{NotRun}
use Rattle.hv_run.specs.Sequence.{RanSays}
use Rattle.request_examples.proofs.RequestBytes.{request}
use Rattle.machine_examples.proofs.HvZones.{add_zone_done}
use Rattle.machine_examples.proofs.HvFrames.{idle}
use Rattle.machine_examples.proofs.HvRequest.{started}
use Rattle.bitmap_examples.proofs.Trees.{one}
use Rattle.allocator_examples.proofs.Memories.{nobody}
use Rattle.frames_examples.proofs.Words.{zeros}
use Rattle.call_examples.proofs.HvServe.{fits}

-- machine 7 asks to be added: its number, the length of the call, and the call
abbrev sequence : List ℕ
sequence = 7 ∷ 0 ∷ 0 ∷ 0 ∷ 0 ∷ 0 ∷ 0 ∷ 0 ∷ 33 ∷ 0 ∷ 0 ∷ 0 ∷ 0 ∷ 0 ∷ 0 ∷ 0 ∷ request 0 0 0 0 0

-- words for three replies, and for the answer to one member
abbrev replies : List ℕ
replies = 0 ∷ 0 ∷ 0 ∷ 0 ∷ 0 ∷ 0 ∷ 0 ∷ 0 ∷ 0 ∷ []

abbrev answers : List ℕ
answers = 0 ∷ 0 ∷ []

adds : ReadSays sequence 16 (Some AddZone)
unfolding numbers_at request_of le64 le32 le16
adds = (refl, record { whole = lit≤ tt; numbers = refl })

says : ReplySays sequence 16 33 started 7 idle answers 0 (Replied.Answered Answer.Done)
unfolding is_list
says = (
  record { alone = refl; exact = refl; right = subst (λ (x : Request). Means sequence 16 x) adds.0 adds.1 },
  one_served started 7 (request_at sequence 16) idle Answer.Done (subst (λ (x : Request). Served started 7 x idle Answer.Done) adds.0 (add_zone_done one nobody zeros)),
)

pub run_ok : RanSays sequence replies answers started.zones started.tree started.owners started idle replies answers (Ok 1)
unfolding le64 le32 le16
run_ok = (
  record { for_replies = lit≤ tt; for_answers = lit≤ tt },
  fits started,
  record {
    transcript = record {
      items = item_at sequence 0 ∷ [];
      framed = Goes (lit≤ tt) (Ends refl);
      performed = Next (item_at sequence 0) (Replied.Answered Answer.Done) says (record { code = refl; index = refl; place = refl }) (λ i l h. refl) (Over (only_none replies 0 3) (only_none answers 0 2));
    };
    count = refl;
  },
)

-- one byte is no item
pub run_broken : RanSays (0 ∷ []) [] [] started.zones started.tree started.owners started started [] [] (Err (NotRun.Broken 0))
run_broken = (record { for_replies = lit≤ tt; for_answers = lit≤ tt }, fits started, Here (lit< tt) (λ (l : behind (0 ∷ []) 0 ≤ 1). omega arith), refl, refl, refl)

pub run_few_words : RanSays sequence [] [] started.zones started.tree started.owners started started [] [] (Err NotRun.FewWords)
run_few_words = ((λ e. let l = e.for_replies in omega (arith, l)), refl, refl, refl)

pub run_spare : RanSays sequence replies answers [] [] [] started started replies answers (Err NotRun.Spare)
run_spare = (record { for_replies = lit≤ tt; for_answers = lit≤ tt }, (λ f. let e = f.zones in omega (arith, e)), refl, refl, refl)
