-- Reading session lines and job lines one after the other, and that each file is exactly one of good, bad and too long.
use Rattle.std.proofs.Common.{◌≡◌, ◌∙◌, ◌≤◌, ◌++◌, inl, inr, ap, sym, subst, refl, ℕ, List, [], ◌∷◌, map, Result, Ok, Err, length}
use Rattle.mbj_types.specs.declared.job.Job.{Job}
use Rattle.mbj_text.specs.declared.limits.TheConstants.{JOB_LIMIT}
use Rattle.mbj_text.specs.declared.fault.LineFault.{LineFault}
use Rattle.mbj_text.specs.declared.fault.LineFault.TheVariants as line_fault
use Rattle.mbj_text.specs.declared.fault.TextFault.{TextFault}
use Rattle.mbj_text.specs.declared.fault.TextFault.TheVariants as text_fault
use Rattle.std.specs.Prelude.{IfOk}
use Rattle.std.specs.declared.vec.Vec.{Vec}
use Rattle.std.specs.declared.alloc.Global.{Global}
use Rattle.mbj_text.specs.Cut.{Numbered, kept_lines}
use Rattle.mbj_text.specs.Entries.{Entry, jobs_in, SpellsEntry, IsBadEntry, IsOverLimit}
use Rattle.mbj_text.specs.Answer.{IsOkOnly}
use Rattle.mbj_text.specs.File.{ReadsLines, BadLines, OverLines, Reads, Bad, Over, EachFileIsOne}
use Rattle.mbj_text.specs.Inside.Reading.{Answers, Fails, KeysAndJobs, entry_of, fault_at, with_entry}
use Rattle.mbj_text.proofs.EachLine.{ReadSoFar, none_read, each_read, more_read, stops_next, outcome, good_give, stop_gives}
use Rattle.mbj_text.proofs.EntryLaws.{entry_back, entry_fault_back, entry_fault_read, entry_read, entry_total, limit_back, limit_read, lists_in, lists_more, read_entry}
use Rattle.mbj_text.proofs.LimitLaws.{AreSessions, IsWithin, reads_within, sessions, within}
use Rattle.mbj_text.proofs.AnswerLaws.{Tells, Fate, is_one, good_only}

-- ---- line after line

-- the answer is right for these lines
abbrev pub AnswersLines : List Numbered → Result KeysAndJobs TextFault → Type 0
AnswersLines all r = Answers (λ lists. ReadsLines all lists.0 lists.1) (BadLines all) (OverLines all) r

module _ (all left rest : List Numbered) (entries : List Entry) (n : ℕ) (text : List ℕ) (s : ReadSoFar SpellsEntry all left entries)
    (next : left ≡ (n, text) ∷ rest) where
  -- what is read as this entry spells it
  next_is_good : (e : Entry) → read_entry entries text ≡ Ok e → SpellsEntry entries text e
  next_is_good e is = let few = within s.before entries s.good in entry_read entries text few.few_keys few.few_jobs e is

  -- the next line is bad
  next_is_bad : (f : ℕ) → IsBadEntry entries text f → BadLines all n f
  next_is_bad f bad = stops_next SpellsEntry all left entries s rest n text next _ bad

  -- the next line is one too many
  next_is_over : IsOverLimit entries text → OverLines all n
  next_is_over over = stops_next SpellsEntry all left entries s rest n text next _ over

  -- the next line's fault is that of the lines
  entries_stop : (fault : LineFault) → Fails fault (read_entry entries text) → AnswersLines all (Err (fault_at n fault))
  entries_stop (line_fault.Field f) fails =
      let few = within s.before entries s.good in next_is_bad f (entry_fault_read entries text few.few_keys few.few_jobs f fails)
  entries_stop line_fault.Limit fails =
      let few = within s.before entries s.good in next_is_over (limit_read entries text few.few_keys few.few_jobs fails)
  entries_stop line_fault.Memory fails = tt

-- ---- the same with the keys and the jobs of the entries

-- the lines before those that are left spell entries, whose keys and jobs these are
pub record SoFar (all left : List Numbered) (lists : KeysAndJobs) : Type 0 where
  pub entries : List Entry
  pub spelled : ReadSoFar SpellsEntry all left entries
  pub lists_are : lists_in entries ≡ lists

module _ (all left rest : List Numbered) (lists : KeysAndJobs) (n : ℕ) (text : List ℕ) (s : SoFar all left lists) (next : left ≡ (n, text) ∷ rest) where
  -- one more line is good
  pub one_more : (e : Entry) → entry_of lists.0 (length lists.1) text ≡ Ok e → SoFar all rest (with_entry lists e)
  one_more e is =
      let P : KeysAndJobs → Type 0 = λ l. entry_of l.0 (length l.1) text ≡ Ok e in
      let spelled = next_is_good all left rest s.entries n text s.spelled next e (subst P (sym s.lists_are) is) in
      record {
        entries = s.entries ++ e ∷ [];
        spelled = more_read SpellsEntry all left s.entries s.spelled rest n text next e spelled;
        lists_are = lists_more s.entries e ∙ ap (λ (l : KeysAndJobs). with_entry l e) s.lists_are;
      }

  -- the next line's fault is that of the lines
  pub stops : (fault : LineFault) → Fails fault (entry_of lists.0 (length lists.1) text) → AnswersLines all (Err (fault_at n fault))
  stops fault fails =
      let P : KeysAndJobs → Type 0 = λ l. Fails fault (entry_of l.0 (length l.1) text) in
      entries_stop all left rest s.entries n text s.spelled next fault (subst P (sym s.lists_are) fails)

-- ---- the three relations exclude one another: each is told by what the lines give

-- the keys and the jobs of what is read
abbrev listed : Result (List Entry) TextFault → Result KeysAndJobs TextFault
listed (Ok entries) = Ok (lists_in entries)
listed (Err fault) = Err fault

-- the outcome of session lines and job lines
pub lines_outcome : List Numbered → Result KeysAndJobs TextFault
lines_outcome lines = listed (outcome read_entry [] lines)

-- it tells the three relations apart
pub lines_tell : (lines : List Numbered) → Tells (λ (r : KeysAndJobs). ReadsLines lines r.0 r.1) (BadLines lines) (OverLines lines) (lines_outcome lines)
unfolding lines_outcome
lines_tell lines = record { good = good; bad = bad; over = over }
  where
    good : (r : KeysAndJobs) → ReadsLines lines r.0 r.1 → lines_outcome lines ≡ Ok r
    good r reads =
        ap listed (good_give read_entry SpellsEntry entry_back lines reads.entries reads.each)
        ∙ ap (λ (keys : List (List ℕ)). Ok (keys, jobs_in reads.entries)) reads.keys_are
        ∙ ap (λ (jobs : List Job). Ok (r.0, jobs)) reads.jobs_are

    bad : (line f : ℕ) → BadLines lines line f → lines_outcome lines ≡ Err (text_fault.Line line f)
    bad line f b =
        ap listed (stop_gives read_entry SpellsEntry entry_back _ lines line b (line_fault.Field f) (entry_fault_back b.values b.text f b.why))

    over : (line : ℕ) → OverLines lines line → lines_outcome lines ≡ Err (text_fault.Limit line)
    over line o = ap listed (stop_gives read_entry SpellsEntry entry_back _ lines line o line_fault.Limit (limit_back o.values o.text o.why))

-- ---- one of the three holds

-- what session lines and job lines are
abbrev pub LinesFate : List Numbered → Type 0
LinesFate all = Fate (λ (r : KeysAndJobs). ReadsLines all r.0 r.1) (BadLines all) (OverLines all)

-- reading on from the lines that are left tells
fate_from : (all : List Numbered) (left : List Numbered) (entries : List Entry) → ReadSoFar SpellsEntry all left entries → LinesFate all
fate_from all [] entries s =
    inl (lists_in entries, record { entries = entries; each = each_read SpellsEntry all [] entries s refl; keys_are = refl; jobs_are = refl })
fate_from all ((n, text) ∷ rest) entries s =
    let few = within s.before entries s.good in
    elim (entry_total entries text few.few_keys few.few_jobs) [
      | inl good ↦ fate_from all rest (entries ++ good.0 ∷ []) (more_read SpellsEntry all ((n, text) ∷ rest) entries s rest n text refl good.0 good.1)
      | inr other ↦ elim other [
        | inl bad ↦ inr (inl (n, bad.0, next_is_bad all ((n, text) ∷ rest) rest entries n text s refl bad.0 bad.1))
        | inr over ↦ inr (inr (n, next_is_over all ((n, text) ∷ rest) rest entries n text s refl over))
      ]
    ]

-- of session lines and job lines
pub fate_of_lines : (lines : List Numbered) → LinesFate lines
fate_of_lines lines = fate_from lines lines [] (none_read SpellsEntry lines)

-- ---- files

-- the file spells these
abbrev pub Spelled : List ℕ → KeysAndJobs → Type 0
Spelled bytes r = Reads bytes r.0 r.1

-- exactly one of the three holds, and in one way
pub one_of_three : EachFileIsOne
one_of_three bytes =
    let lines = kept_lines bytes in
    is_one (Spelled bytes) (Bad bytes) (Over bytes) (lines_outcome lines) (lines_tell lines) (fate_of_lines lines)

-- ---- answers

-- what the code answers
abbrev pub FileAnswer : Type 0
FileAnswer = Result (Vec (Vec ℕ Global) Global × Vec Job Global) TextFault

-- keys and jobs as lists
abbrev pub lists_of : Vec (Vec ℕ Global) Global × Vec Job Global → KeysAndJobs
lists_of x = (map (λ k. k.items) x.0.items, x.1.items)

-- the answer is Ok with these, unless memory ran out
abbrev IsFile : FileAnswer → List (List ℕ) → List Job → Type 0
IsFile r keys jobs = IsOkOnly r (λ x. (map (λ k. k.items) x.0.items ≡ keys) × (x.1.items ≡ jobs))

-- the answer is right for this file
abbrev pub AnswersFile : List ℕ → FileAnswer → Type 0
AnswersFile bytes r = Answers (λ x. Spelled bytes (lists_of x)) (Bad bytes) (Over bytes) r

-- what is spelled is answered, unless memory ran out
pub file_only : (bytes : List ℕ) (r : FileAnswer) → AnswersFile bytes r
    → (keys : List (List ℕ)) (jobs : List Job) → Reads bytes keys jobs → IsFile r keys jobs
file_only bytes r a keys jobs h =
    parts r (good_only lists_of (Spelled bytes) (Bad bytes) (Over bytes) (lines_outcome (kept_lines bytes)) (lines_tell (kept_lines bytes)) r a (keys, jobs) h)
  where
    parts : (r : FileAnswer) → IsOkOnly r (λ x. lists_of x ≡ (keys, jobs)) → IsFile r keys jobs
    parts (Ok x) same = (ap (λ (l : KeysAndJobs). l.0) same, ap (λ (l : KeysAndJobs). l.1) same)
    parts (Err e) same = same

-- it is within the limits
file_within : (bytes : List ℕ) (x : Vec (Vec ℕ Global) Global × Vec Job Global) → Spelled bytes (lists_of x) → IsWithin (lists_of x)
file_within bytes x reads = reads_within (kept_lines bytes) (lists_of x).0 x.1.items reads

-- so are the sessions of the answer
pub file_sessions : (bytes : List ℕ) (r : FileAnswer) → AnswersFile bytes r → IfOk r (λ x. AreSessions x.0)
file_sessions bytes (Ok x) a = sessions x.0 x.1.items (file_within bytes x a)
file_sessions bytes (Err fault) a = tt

-- and its jobs
pub file_count : (bytes : List ℕ) (r : FileAnswer) → AnswersFile bytes r → IfOk r (λ x. length x.1.items ≤ JOB_LIMIT)
file_count bytes (Ok x) a = (file_within bytes x a).few_jobs
file_count bytes (Err fault) a = tt
