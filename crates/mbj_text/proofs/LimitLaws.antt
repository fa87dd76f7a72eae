-- What the lines of a file spell is within the limits.
use Rattle.std.proofs.Common.{◌≡◌, ◌∙◌, ◌≤◌, ◌++◌, ap, sym, subst, ℕ, List, [], ◌∷◌, length, map, arith, append_assoc, append-nil, length-append, rules, vec_len}
use Rattle.std.specs.Prelude.{IsTrue}
use Rattle.std.specs.declared.vec.Vec.{Vec}
use Rattle.std.specs.declared.alloc.Global.{Global}
use Rattle.std.specs.List.{All}
use Rattle.std.proofs.lemmas.List.Elements.{All-nil, All-cons, All-head, All-tail, All-append}
use Rattle.std.proofs.lemmas.List.{length-map}
use Rattle.mbj_types.specs.declared.job.Job.{Job}
use Rattle.mbj_types.specs.Aes.{is_key_size}
use Rattle.mbj_types.specs.declared.limits.TheConstants.{MAX_SESSIONS}
use Rattle.mbj_text.specs.declared.limits.TheConstants.{JOB_LIMIT}
use Rattle.mbj_text.specs.Cut.{Numbered}
use Rattle.mbj_text.specs.Entries.{Entry, SessionEntry, JobEntry, keys_in, jobs_in, session_forms, SpellsEntry}
use Rattle.mbj_text.specs.Spelling.{SpellsFields}
use Rattle.mbj_text.specs.Stops.{SpellBehind, SpellEach}
use Rattle.mbj_text.specs.File.{ReadsLines}
use Rattle.mbj_text.specs.Inside.Reading.{KeysAndJobs, with_entry}
use Rattle.mbj_text.proofs.EntryLaws.{lists_in, lists_more}

-- the size of a key of AES
abbrev IsSized : List ℕ → Type 0
IsSized key = IsTrue (is_key_size (length key))

-- there are no more keys and jobs than there may be, and each key is one of AES
pub record IsWithin (lists : KeysAndJobs) : Type 0 where
  pub few_keys : length lists.0 ≤ MAX_SESSIONS
  pub sized : All IsSized lists.0
  pub few_jobs : length lists.1 ≤ JOB_LIMIT

-- ---- entries

-- the key of a session line is one of AES
key_sized : (texts : List (List ℕ)) (key : List ℕ) → SpellsFields session_forms texts (key, tt) → IsSized key
key_sized [] key s = absurd s
key_sized (text ∷ []) key s = s.0.1
key_sized (text ∷ more ∷ rest) key s = absurd s.1

-- one entry more
one_more_within : (before : List Entry) (text : List ℕ) (e : Entry) → SpellsEntry before text e → IsWithin (lists_in before) → IsWithin (with_entry (lists_in before) e)
one_more_within before text (SessionEntry key) (room, spelled) s =
    let one : All IsSized (key ∷ []) = All-cons IsSized key [] (key_sized spelled.session.texts key spelled.key_is) (All-nil IsSized) in
    record {
      few_keys = omega (arith, room, length-append (keys_in before) (key ∷ []));
      sized = All-append IsSized (keys_in before) (key ∷ []) s.sized one;
      few_jobs = s.few_jobs;
    }
one_more_within before text (JobEntry job) spelled s = record {
  few_keys = s.few_keys;
  sized = s.sized;
  few_jobs = omega (arith, spelled.1, length-append (jobs_in before) (job ∷ []));
}

-- those that lines spell, behind those before
all_within : (before : List Entry) (lines : List Numbered) (entries : List Entry) → SpellBehind SpellsEntry before lines entries
    → IsWithin (lists_in before) → IsWithin (lists_in (before ++ entries))
all_within before [] [] good s = let P : List Entry → Type 0 = λ es. IsWithin (lists_in es) in subst P (sym (append-nil before)) s
all_within before [] (e ∷ es) good s = absurd good
all_within before (line ∷ lines) [] good s = absurd good
all_within before (line ∷ lines) (e ∷ es) (first, more) s =
    let P : List Entry → Type 0 = λ es. IsWithin (lists_in es) in
    let next : IsWithin (lists_in (before ++ e ∷ [])) = subst (λ (l : KeysAndJobs). IsWithin l) (sym (lists_more before e)) (one_more_within before line.1 e first s) in
    subst P (append_assoc before (e ∷ []) es) (all_within (before ++ e ∷ []) lines es more next)

-- those that lines spell
pub within : (lines : List Numbered) (entries : List Entry) → SpellEach SpellsEntry lines entries → IsWithin (lists_in entries)
within lines entries good = all_within [] lines entries good (record { few_keys = omega arith; sized = All-nil IsSized; few_jobs = omega arith })

-- the keys and the jobs of lines
pub reads_within : (lines : List Numbered) (keys : List (List ℕ)) (jobs : List Job) → ReadsLines lines keys jobs → IsWithin (keys, jobs)
reads_within lines keys jobs r =
    let same : lists_in r.entries ≡ (keys, jobs) =
    ap (λ (keys : List (List ℕ)). (keys, jobs_in r.entries)) r.keys_are ∙ ap (λ (jobs : List Job). (keys, jobs)) r.jobs_are in
    subst (λ (l : KeysAndJobs). IsWithin l) same (within lines r.entries r.each)

-- ---- keys as vectors

-- no more than there may be, each one of AES
abbrev pub AreSessions : Vec (Vec ℕ Global) Global → Type 0
AreSessions keys = (vec_len keys ≤ MAX_SESSIONS) × All (λ k. IsTrue (is_key_size (length k.items))) keys.items

-- from the lists of keys to the keys
unmapped : (keys : List (Vec ℕ Global)) → All IsSized (map (λ k. k.items) keys) → All (λ (k : Vec ℕ Global). IsSized k.items) keys
unmapped [] s = All-nil _
unmapped (key ∷ keys) s =
    All-cons (λ (k : Vec ℕ Global). IsSized k.items) key keys
    (All-head IsSized key.items (map (λ k. k.items) keys) s) (unmapped keys (All-tail IsSized key.items (map (λ k. k.items) keys) s))

-- keys whose lists are within the limits
pub sessions : (keys : Vec (Vec ℕ Global) Global) (jobs : List Job) → IsWithin (map (λ k. k.items) keys.items, jobs) → AreSessions keys
sessions keys jobs s =
    let size : vec_len keys ≡ length keys.items = search rules in
    (omega (arith, size, s.few_keys, length-map keys.items (λ k. k.items)), unmapped keys.items s.sized)
