-- What the proofs of the functions cite. Assumes nothing.
use mathlib.Core.Path.{◌≡◌, refl, ◌∙◌}
use mathlib.Core.List.{List}
use Prim.Native.Nat.{ℕ, ◌+◌, ◌≤◌, ◌<◌}
use native.Mathlib.Omega.{arith}
use lib.ListN.{length, get_or, take, length-take}
use lib.Seq.{get_or-take}
use Rattle.std.specs.Prelude.{Err}
use Rattle.config_model.specs.Config.{ConfigOk}
use Rattle.config_model.specs.Rules.{Rules}
use Rattle.config_model.proofs.Laws.{rules_ok}
use Rattle.config_bytes.specs.Fields.{config_of, machines, tail, Readable}
use Rattle.config_bytes.specs.Reading.{read_of}
use Rattle.config_bytes.specs.declared.Misread.{Misread}
use Rattle.config_rules.specs.Judging.{WrongSays}
use Rattle.config_rules.specs.declared.Reason.{Reason}
use Rattle.config_view.specs.Table.{table_config}
use Rattle.config.specs.Checking.{IsRight, RefusedSays, reason_of}
use Rattle.config_encode.specs.Encoding.{WroteAll, size_of}
use Rattle.config_encode.proofs.Meaning.{means_it, same_config}
use Rattle.config.specs.Tables.{Writable}
use Rattle.config.specs.Encoding.{WasEncoded}

-- a wrong field is the reason
pub misread : (s : List ℕ) (e : Misread) → read_of s ≡ Err e → RefusedSays s (reason_of e)
misread s (Misread.TooShort at) q = q
misread s Misread.TooManyMachines q = q
misread s (Misread.TooManyRegions m) q = q
misread s (Misread.UnknownKind m i) q = q

-- a broken rule is the reason
pub wrong_bytes : (s : List ℕ) (r : Reason) → Readable s → WrongSays (config_of s) r → RefusedSays s r
wrong_bytes s (Reason.TooShort at) x w = absurd w
wrong_bytes s Reason.TooManyMachines x w = absurd w
wrong_bytes s (Reason.TooManyRegions m) x w = absurd w
wrong_bytes s (Reason.UnknownKind m i) x w = absurd w
wrong_bytes s (Reason.SameNumber m m') x w = (x, w)
wrong_bytes s (Reason.NotValid m i f) x w = (x, w)
wrong_bytes s (Reason.PoolNotValid f) x w = (x, w)
wrong_bytes s (Reason.HostShared m i m' i') x w = (x, w)
wrong_bytes s (Reason.NotCoinciding m i m' i') x w = (x, w)
wrong_bytes s (Reason.OneMachine m i i') x w = (x, w)
wrong_bytes s (Reason.GuestShared m i i') x w = (x, w)
wrong_bytes s (Reason.PoolShared m i) x w = (x, w)
wrong_bytes s (Reason.LeftOver at) x w = absurd w

-- where every rule holds, and no byte is left over, the bytes are right
pub right_bytes : (s : List ℕ) → Readable s → Rules (config_of s) → length s ≤ tail s + 16 → IsRight s (machines s)
right_bytes s r k l =
    let p = r.pool in
    record { means = record { readable = r; exact = omega arith }; ok = rules_ok (config_of s) (λ m h. (r.parts m h).few) k; number = refl }

-- no machine of a table has more than 32 regions
pub table_rules : (t : List ℕ) → Rules (table_config t) → ConfigOk (table_config t)
table_rules t r = rules_ok (table_config t) (λ m l. omega arith) r

pub encoded : (t o o' : List ℕ) (n : ℕ) → Writable t → n ≡ size_of (table_config t) → n ≤ length o → WroteAll (table_config t) o o' → WasEncoded t o n o'
encoded t o o' n k z l x =
    let long = x.only.long in
    let h : length (take n o') ≡ size_of (table_config t) = length-take n o' ∙ omega arith in
    let g : (j : ℕ) → j < size_of (table_config t) → get_or (take n o') j 0 ≡ get_or o' j 0 = λ j u. get_or-take n o' j 0 (omega arith) in
    record {
      writable = k;
      size = z;
      room = l;
      means = means_it (table_config t) o' (take n o') (omega arith) (λ m u. omega arith) x.is h g;
      same = same_config (table_config t) o' (take n o') (omega arith) (λ m u. omega arith) x.is h g;
      long = long;
      rest = λ j u. x.only.others j (λ a b. omega arith);
    }
