-- A line gives an entry exactly where it spells one.
use Rattle.std.proofs.Common.{◌≡◌, ◌≢◌, ◌⊎◌, ◌∙◌, ◌==◌, ◌≤◌, ◌++◌, inl, inr, ap, sym, subst, refl, ℕ, Bool, true, false, cond, List, [], ◌∷◌, Ok, Err, length, drop, arith, eq-eqb}
use Rattle.std.proofs.lemmas.Bool.{ne_eqb}
use Rattle.std.proofs.lemmas.Bool.Decides.{eqb_tells}
use Rattle.std.proofs.lemmas.Slice.Eq.{bytes_eq-Decides}
use Rattle.mbj_types.specs.declared.limits.TheConstants.{MAX_SESSIONS}
use Rattle.mbj_text.specs.declared.limits.TheConstants.{JOB_LIMIT}
use Rattle.mbj_text.specs.declared.fault.LineFault.{LineFault}
use Rattle.mbj_text.specs.declared.fault.LineFault.TheVariants as line_fault
use Rattle.mbj_text.specs.Words.{session_word}
use Rattle.mbj_text.specs.Spelling.{HasFault, fields_of}
use Rattle.mbj_text.specs.Entries.{Entry, SessionEntry, JobEntry, keys_in, jobs_in, IsSessionLine, session_forms, SpellsSession, SpellsEntry, IsBadEntry, IsOverLimit}
use Rattle.mbj_text.specs.Inside.Reading.{◌>>=◌, Read, Fails, KeysAndJobs, all_from, bad_field, begins_session, entry_of, job_of, session_of, with_entry}
use Rattle.mbj_text.proofs.LineLaws.{all_back, all_fault_back, all_total, job_back, fault_back, line_total}

-- ---- session lines

-- a session line begins with the word
pub begins_back : (line : List ℕ) → IsSessionLine line → begins_session (fields_of line) ≡ true
begins_back line s = ap begins_session s.fields

-- a line that begins with the word is a session line
pub begins_read : (line : List ℕ) → begins_session (fields_of line) ≡ true → IsSessionLine line
begins_read line h = go (fields_of line) refl h
  where
    go : (texts : List (List ℕ)) → fields_of line ≡ texts → begins_session texts ≡ true → IsSessionLine line
    go [] is h = cc
    go (first ∷ rest) is h =
        record { texts = rest; fields = is ∙ ap (λ (t : List ℕ). t ∷ rest) ((bytes_eq-Decides first session_word).0 h) }

-- a line that doesn't is none
not_session : (line : List ℕ) → begins_session (fields_of line) ≡ false → ¬ (IsSessionLine line)
not_session line h s = let both = sym h ∙ begins_back line s in cc

-- a line that is none doesn't
not_begins : (line : List ℕ) → ¬ (IsSessionLine line) → begins_session (fields_of line) ≡ false
not_begins line other = go (begins_session (fields_of line)) refl
  where
    go : (b : Bool) → begins_session (fields_of line) ≡ b → begins_session (fields_of line) ≡ false
    go true e = absurd (other (begins_read line e))
    go false e = e

-- what a line with these fields is read as, if the first is the word
abbrev read_behind : List (List ℕ) → Read (List ℕ)
read_behind texts = all_from session_forms (record { taken = 1; left = drop 1 texts }) (λ vs. vs.0)

-- what is spelled is read
session_back : (line key : List ℕ) → SpellsSession line key → session_of line ≡ Ok key
unfolding session_of
session_back line key s = ap read_behind s.session.fields ∙ all_back 1 session_forms s.session.texts (key, tt) (λ vs. vs.0) s.key_is

-- a fault is found
session_fault_back : (line : List ℕ) (s : IsSessionLine line) (f : ℕ) → HasFault 2 session_forms s.texts f → session_of line ≡ bad_field f
unfolding session_of
session_fault_back line s f fault = ap read_behind s.fields ∙ all_fault_back 1 session_forms s.texts f (λ vs. vs.0) fault

-- ---- how a line is read

module _ (keys : List (List ℕ)) (jobs : ℕ) (line : List ℕ) where
  -- given the tests of its word and of the limits
  abbrev by_tests : Bool → Bool → Bool → Read Entry
  by_tests is_session no_key_fits no_job_fits =
      cond is_session
      (cond no_key_fits (bad_field 1) (session_of line >>= λ key. Ok (SessionEntry key)))
      (cond no_job_fits (Err line_fault.Limit) (job_of keys line >>= λ job. Ok (JobEntry job)))

  -- a session line that is one too many
  pub no_session_fits : begins_session (fields_of line) ≡ true → length keys ≡ MAX_SESSIONS → entry_of keys jobs line ≡ bad_field 1
  unfolding entry_of
  no_session_fits word full =
      ap (λ b. by_tests b (length keys == MAX_SESSIONS) (jobs == JOB_LIMIT)) word
      ∙ ap (λ b. by_tests true b (jobs == JOB_LIMIT)) (eq-eqb (length keys) MAX_SESSIONS full)

  -- another session line
  pub session_fits : begins_session (fields_of line) ≡ true → length keys ≢ MAX_SESSIONS
      → entry_of keys jobs line ≡ (session_of line >>= λ key. Ok (SessionEntry key))
  unfolding entry_of
  session_fits word room =
      ap (λ b. by_tests b (length keys == MAX_SESSIONS) (jobs == JOB_LIMIT)) word
      ∙ ap (λ b. by_tests true b (jobs == JOB_LIMIT)) (ne_eqb (length keys) MAX_SESSIONS room)

  -- a job line that is one too many
  pub no_job_fits : begins_session (fields_of line) ≡ false → jobs ≡ JOB_LIMIT → entry_of keys jobs line ≡ Err line_fault.Limit
  unfolding entry_of
  no_job_fits word full =
      ap (λ b. by_tests b (length keys == MAX_SESSIONS) (jobs == JOB_LIMIT)) word
      ∙ ap (λ b. by_tests false (length keys == MAX_SESSIONS) b) (eq-eqb jobs JOB_LIMIT full)

  -- another job line
  pub job_fits : begins_session (fields_of line) ≡ false → jobs ≢ JOB_LIMIT
      → entry_of keys jobs line ≡ (job_of keys line >>= λ job. Ok (JobEntry job))
  unfolding entry_of
  job_fits word room =
      ap (λ b. by_tests b (length keys == MAX_SESSIONS) (jobs == JOB_LIMIT)) word
      ∙ ap (λ b. by_tests false (length keys == MAX_SESSIONS) b) (ne_eqb jobs JOB_LIMIT room)

-- a fault stays where the reading goes on
pub fails_on : {A B : Type 0} (fault : LineFault) (read : Read A) (next : A → Read B) → Fails fault read → Fails fault (read >>= next)
fails_on line_fault.Memory read next fails = tt
fails_on (line_fault.Field f) read next fails = ap (λ r. r >>= next) fails
fails_on line_fault.Limit read next fails = ap (λ r. r >>= next) fails

-- ---- behind the entries of the lines before

-- the keys and the jobs of entries
abbrev pub lists_in : List Entry → KeysAndJobs
lists_in entries = (keys_in entries, jobs_in entries)

-- those of one entry more
pub lists_more : (entries : List Entry) (e : Entry) → lists_in (entries ++ e ∷ []) ≡ with_entry (lists_in entries) e
lists_more [] (SessionEntry key) = refl
lists_more [] (JobEntry job) = refl
lists_more (SessionEntry k ∷ rest) (SessionEntry key) = ap (λ (l : KeysAndJobs). (k ∷ l.0, l.1)) (lists_more rest (SessionEntry key))
lists_more (SessionEntry k ∷ rest) (JobEntry job) = ap (λ (l : KeysAndJobs). (k ∷ l.0, l.1)) (lists_more rest (JobEntry job))
lists_more (JobEntry j ∷ rest) (SessionEntry key) = ap (λ (l : KeysAndJobs). (l.0, j ∷ l.1)) (lists_more rest (SessionEntry key))
lists_more (JobEntry j ∷ rest) (JobEntry job) = ap (λ (l : KeysAndJobs). (l.0, j ∷ l.1)) (lists_more rest (JobEntry job))

-- what the line is read as
abbrev pub read_entry : List Entry → List ℕ → Read Entry
read_entry before line = entry_of (keys_in before) (length (jobs_in before)) line

-- what is spelled is read
pub entry_back : (before : List Entry) (line : List ℕ) (e : Entry) → SpellsEntry before line e → read_entry before line ≡ Ok e
entry_back before line (SessionEntry key) (room, s) =
    session_fits (keys_in before) (length (jobs_in before)) line (begins_back line s.session) (λ full. omega (arith, full, room))
    ∙ ap (λ (r : Read (List ℕ)). r >>= λ key. Ok (SessionEntry key)) (session_back line key s)
entry_back before line (JobEntry job) (other, room, s) =
    job_fits (keys_in before) (length (jobs_in before)) line (not_begins line other) (λ full. omega (arith, full, room))
    ∙ ap (λ (r : Read _). r >>= λ job. Ok (JobEntry job)) (job_back (keys_in before) line job s)

-- a fault is found
pub entry_fault_back : (before : List Entry) (line : List ℕ) (f : ℕ) → IsBadEntry before line f → read_entry before line ≡ bad_field f
entry_fault_back before line f (inl (s, inl (first, full))) =
    no_session_fits (keys_in before) (length (jobs_in before)) line (begins_back line s) full
    ∙ ap (λ (k : ℕ). bad_field k) (sym first)
entry_fault_back before line f (inl (s, inr (room, fault))) =
    session_fits (keys_in before) (length (jobs_in before)) line (begins_back line s) (λ full. omega (arith, full, room))
    ∙ ap (λ (r : Read (List ℕ)). r >>= λ key. Ok (SessionEntry key)) (session_fault_back line s f fault)
entry_fault_back before line f (inr (other, room, bad)) =
    job_fits (keys_in before) (length (jobs_in before)) line (not_begins line other) (λ full. omega (arith, full, room))
    ∙ ap (λ (r : Read _). r >>= λ job. Ok (JobEntry job)) (fault_back (keys_in before) line f bad)

-- the limit is found
pub limit_back : (before : List Entry) (line : List ℕ) → IsOverLimit before line → read_entry before line ≡ Err line_fault.Limit
limit_back before line (other, full) = no_job_fits (keys_in before) (length (jobs_in before)) line (not_begins line other) full

-- what a line is
abbrev pub EntryFate : List Entry → List ℕ → Type 0
EntryFate before line = ((e : Entry) × SpellsEntry before line e) ⊎ (((f : ℕ) × IsBadEntry before line f) ⊎ IsOverLimit before line)

module _ (before : List Entry) (line : List ℕ) (few_keys : length (keys_in before) ≤ MAX_SESSIONS) (few_jobs : length (jobs_in before) ≤ JOB_LIMIT) where
  -- a session line
  session_total : IsSessionLine line → EntryFate before line
  session_total s = elim (eqb_tells (length (keys_in before)) MAX_SESSIONS) [
    | inl full ↦ inr (inl (1, inl (s, inl (refl, full.1))))
    | inr room ↦ elim (all_total 2 session_forms s.texts) [
      | inl good ↦ inl (SessionEntry good.0.0, (omega (arith, few_keys, room.1), record { session = s; key_is = good.1 }))
      | inr bad ↦ inr (inl (bad.0, inl (s, inr (omega (arith, few_keys, room.1), bad.1))))
    ]
  ]

  -- a job line
  job_total : ¬ (IsSessionLine line) → EntryFate before line
  job_total other = elim (eqb_tells (length (jobs_in before)) JOB_LIMIT) [
    | inl full ↦ inr (inr (other, full.1))
    | inr room ↦ elim (line_total (keys_in before) line) [
      | inl good ↦ inl (JobEntry good.0, (other, omega (arith, few_jobs, room.1), good.1))
      | inr bad ↦ inr (inl (bad.0, inr (other, omega (arith, few_jobs, room.1), bad.1)))
    ]
  ]

  -- one of the three holds
  pub entry_total : EntryFate before line
  entry_total = go (begins_session (fields_of line)) refl
    where
      go : (b : Bool) → begins_session (fields_of line) ≡ b → EntryFate before line
      go true e = session_total (begins_read line e)
      go false e = job_total (not_session line e)

  -- what is read is spelled
  pub entry_read : (e : Entry) → read_entry before line ≡ Ok e → SpellsEntry before line e
  entry_read e h = elim entry_total [
    | inl good ↦
        let both : ◌≡◌ {A = Read Entry} (Ok good.0) (Ok e) = sym (entry_back before line good.0 good.1) ∙ h in
        let same : good.0 ≡ e = cc in
        let P : Entry → Type 0 = λ x. SpellsEntry before line x in subst P same good.1
    | inr other ↦ elim other [
      | inl bad ↦ let both = sym (entry_fault_back before line bad.0 bad.1) ∙ h in cc
      | inr over ↦ let both = sym (limit_back before line over) ∙ h in cc
    ]
  ]

  -- a fault that is found is one
  pub entry_fault_read : (f : ℕ) → read_entry before line ≡ bad_field f → IsBadEntry before line f
  entry_fault_read f h = elim entry_total [
    | inl good ↦ let both = sym (entry_back before line good.0 good.1) ∙ h in cc
    | inr other ↦ elim other [
      | inl bad ↦
          let both : ◌≡◌ {A = Read Entry} (bad_field bad.0) (bad_field f) = sym (entry_fault_back before line bad.0 bad.1) ∙ h in
          let same : bad.0 ≡ f = cc in
          let P : ℕ → Type 0 = λ k. IsBadEntry before line k in subst P same bad.1
      | inr over ↦ let both = sym (limit_back before line over) ∙ h in cc
    ]
  ]

  -- a limit that is found is one
  pub limit_read : read_entry before line ≡ Err line_fault.Limit → IsOverLimit before line
  limit_read h = elim entry_total [
    | inl good ↦ let both = sym (entry_back before line good.0 good.1) ∙ h in cc
    | inr other ↦ elim other [
      | inl bad ↦ let both = sym (entry_fault_back before line bad.0 bad.1) ∙ h in cc
      | inr over ↦ over
    ]
  ]
