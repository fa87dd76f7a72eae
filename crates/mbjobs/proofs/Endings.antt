-- How a command ends over a source that tells its bytes.
use Rattle.std.proofs.Common.{◌≡◌, ◌⊎◌, ◌∙◌, ◌≤◌, ◌<◌, ◌++◌, ap, sym, subst, refl, inl, inr, ℕ, List, Option, None, Some, length, append-nil, length-append, arith}
use Rattle.mbj_text.specs.declared.limits.TheConstants.{INPUT_LIMIT}
use Rattle.mbj_types.specs.declared.job.Job.{Job}
use Rattle.mbj_text.specs.Answer.{IsOneOf}
use Rattle.mbj_text.specs.File.{Reads, Bad, Over}
use Rattle.mbj_text.specs.Replay.{ReadsReplay, BadReplay, OverReplay}
use Rattle.mbj_text.specs.declared.command.Cmd.{Cmd}
use Rattle.mbj_text.proofs.FileLaws as file
use Rattle.mbj_text.proofs.ReplayLaws as replay
use Rattle.mbjobs.specs.Message.{status_for}
use Rattle.mbjobs.specs.Outcome.{AsksFor, Does, IsBadFor, IsOverFor, ReadsInput, Stands}
use Rattle.mbj_io.specs.Streams.{Fails, Stream}
use Rattle.mbjobs.specs.Reading.{ReadsAll, ReadsBytes, ReadsTooMuch}
use Rattle.mbjobs.specs.declared.cause.Cause.{Cause}
use Rattle.mbjobs.specs.declared.cause.Cause.TheVariants.{Read, Write, Line, Bytes, Jobs, Memory}
use Rattle.mbj_command.specs.declared.command.Command.{Command}
use Rattle.mbj_command.specs.declared.command.Command.TheVariants.{Run, Trace, Burst, Gen, Replay}

all_of_told : (told bytes : List ℕ) (after : Option (List ℕ)) → ReadsAll (Some told) after bytes → bytes ≡ told
all_of_told told bytes None r = absurd r.1
all_of_told told bytes (Some left) r = sym (r.1 ∙ ap (λ (l : List ℕ). bytes ++ l) r.2 ∙ append-nil bytes)

more_than_told : (told : List ℕ) (after : Option (List ℕ)) → ReadsTooMuch (Some told) after → INPUT_LIMIT < length told
more_than_told told None r = absurd r.2
more_than_told told (Some left) r = omega (arith, r.1, ap length r.2, length-append r.0 left)

-- the bytes that were read are the ones that were told
pub read_is_told : (input : Stream) (told bytes : List ℕ) → input.before ≡ Some told → ReadsAll input.before input.after bytes → bytes ≡ told
read_is_told input told bytes tells r = all_of_told told bytes input.after (subst (λ before. ReadsAll before input.after bytes) tells r)

-- too much was read only where too much was told
pub too_much_is_told : (input : Stream) (told : List ℕ) → input.before ≡ Some told → ReadsTooMuch input.before input.after → INPUT_LIMIT < length told
too_much_is_told input told tells r = more_than_told told input.after (subst (λ before. ReadsTooMuch before input.after) tells r)

-- what holds of the bytes that were read holds of those that were told
holds_of_told : (input : Stream) (told : List ℕ) (Holds : List ℕ → Type 0) → input.before ≡ Some told → ReadsBytes input Holds → Holds told
holds_of_told input told Holds tells r = subst Holds (read_is_told input told r.0 tells r.1) r.2

-- ---- an input is good, or has a bad line, or too many jobs

module _ {A : Type 0} (Good : A → Type 0) (IsBad : ℕ → ℕ → Type 0) (IsOver : ℕ → Type 0) (one : IsOneOf Good IsBad IsOver) where
  good_not_bad : (x : A) (line field : ℕ) → Good x → IsBad line field → ⊥
  good_not_bad x line field good bad = elim one.one [
    | inl is ↦ is.1 (line, field, bad)
    | inr other ↦ elim other [
      | inl is ↦ is.0 (x, good)
      | inr is ↦ is.0 (x, good)
    ]
  ]

  good_not_over : (x : A) (line : ℕ) → Good x → IsOver line → ⊥
  good_not_over x line good over = elim one.one [
    | inl is ↦ is.2 (line, over)
    | inr other ↦ elim other [
      | inl is ↦ is.0 (x, good)
      | inr is ↦ is.0 (x, good)
    ]
  ]

  bad_not_over : (line field at : ℕ) → IsBad line field → IsOver at → ⊥
  bad_not_over line field at bad over = elim one.one [
    | inl is ↦ is.1 (line, field, bad)
    | inr other ↦ elim other [
      | inl is ↦ is.2 (at, over)
      | inr is ↦ is.1 (line, field, bad)
    ]
  ]

-- the lists of a file, and those of a replay
abbrev FileLists : Type 0
FileLists = List (List ℕ) × List Job

abbrev reads : List ℕ → FileLists → Type 0
reads told r = Reads told r.0 r.1

abbrev reads_replay : ℕ → ℕ → List ℕ → FileLists × List Cmd → Type 0
reads_replay s w told r = ReadsReplay s w told r.0.0 r.0.1 r.1

asks_not_bad : (c : Command) (told text : List ℕ) (line field : ℕ) → AsksFor c told text → IsBadFor c told line field → ⊥
asks_not_bad (Run s w) told text line field a b = good_not_bad (reads told) (Bad told) (Over told) (file.one_of_three told) (a.0, a.1) line field a.2 b
asks_not_bad Trace told text line field a b = good_not_bad (reads told) (Bad told) (Over told) (file.one_of_three told) (a.0, a.1) line field a.2 b
asks_not_bad (Burst n) told text line field a b = good_not_bad (reads told) (Bad told) (Over told) (file.one_of_three told) (a.0, a.1) line field a.2 b
asks_not_bad (Gen n m s w) told text line field a b = b
asks_not_bad (Replay s w) told text line field a b =
    good_not_bad (reads_replay s w told) (BadReplay s w told) (OverReplay told) (replay.one_of_three s w told) ((a.0, a.1), a.2) line field a.3 b

asks_not_over : (c : Command) (told text : List ℕ) (line : ℕ) → AsksFor c told text → IsOverFor c told line → ⊥
asks_not_over (Run s w) told text line a o = good_not_over (reads told) (Bad told) (Over told) (file.one_of_three told) (a.0, a.1) line a.2 o
asks_not_over Trace told text line a o = good_not_over (reads told) (Bad told) (Over told) (file.one_of_three told) (a.0, a.1) line a.2 o
asks_not_over (Burst n) told text line a o = good_not_over (reads told) (Bad told) (Over told) (file.one_of_three told) (a.0, a.1) line a.2 o
asks_not_over (Gen n m s w) told text line a o = o
asks_not_over (Replay s w) told text line a o =
    good_not_over (reads_replay s w told) (BadReplay s w told) (OverReplay told) (replay.one_of_three s w told) ((a.0, a.1), a.2) line a.3 o

bad_not_over_for : (c : Command) (told : List ℕ) (line field at : ℕ) → IsBadFor c told line field → IsOverFor c told at → ⊥
bad_not_over_for (Run s w) told line field at b o = bad_not_over (reads told) (Bad told) (Over told) (file.one_of_three told) line field at b o
bad_not_over_for Trace told line field at b o = bad_not_over (reads told) (Bad told) (Over told) (file.one_of_three told) line field at b o
bad_not_over_for (Burst n) told line field at b o = bad_not_over (reads told) (Bad told) (Over told) (file.one_of_three told) line field at b o
bad_not_over_for (Gen n m s w) told line field at b o = o
bad_not_over_for (Replay s w) told line field at b o =
    bad_not_over (reads_replay s w told) (BadReplay s w told) (OverReplay told) (replay.one_of_three s w told) line field at b o

-- what a command writes that reads its input, it was asked for
abbrev pub Asked : Command → List ℕ → Type 0
Asked c told = (text : List ℕ) × AsksFor c told text

asks_told : (c : Command) (input : Stream) (IsWritten : List ℕ → Type 0) (told : List ℕ)
    → ReadsBytes input (λ bytes. (text : List ℕ) × AsksFor c bytes text × IsWritten text) → input.before ≡ Some told → Asked c told
asks_told c input IsWritten told d tells =
    (d.2.0, subst (λ bytes. AsksFor c bytes d.2.0) (read_is_told input told d.0 tells d.1) d.2.1)

does_asked : (c : Command) (input : Stream) (IsWritten : List ℕ → Type 0) (told : List ℕ) → ReadsInput c → Does c input IsWritten → input.before ≡ Some told → Asked c told
does_asked (Gen n m s w) input IsWritten told reads d tells = absurd reads
does_asked c input IsWritten told reads d tells = asks_told c input IsWritten told d tells

bad_reads : (c : Command) (told : List ℕ) (line field : ℕ) → IsBadFor c told line field → ReadsInput c
bad_reads (Gen n m s w) told line field b = b
bad_reads c told line field b = tt

over_reads : (c : Command) (told : List ℕ) (line : ℕ) → IsOverFor c told line → ReadsInput c
over_reads (Gen n m s w) told line o = o
over_reads c told line o = tt

-- ---- a good input

pub good_ends : (c : Command) (cause : Cause) (input out : Stream) (told text : List ℕ)
    → Stands c cause input out → input.before ≡ Some told → length told ≤ INPUT_LIMIT → AsksFor c told text
    → ¬ Fails input → ¬ Fails out → status_for cause ≡ 7
good_ends c Read input out told text s tells short good calm calm_out = absurd (calm s.1.rose)
good_ends c Write input out told text s tells short good calm calm_out = absurd (calm_out s.0)
good_ends c (Line line field) input out told text s tells short good calm calm_out =
    absurd (asks_not_bad c told text line field good (holds_of_told input told (λ bytes. IsBadFor c bytes line field) tells s))
good_ends c Bytes input out told text s tells short good calm calm_out =
    let long : INPUT_LIMIT < length told = too_much_is_told input told tells s.1 in absurd (omega arith)
good_ends c (Jobs line) input out told text s tells short good calm calm_out =
    absurd (asks_not_over c told text line good (holds_of_told input told (λ bytes. IsOverFor c bytes line) tells s))
good_ends c Memory input out told text s tells short good calm calm_out = refl

-- ---- no input

-- ---- an input with a bad line

pub bad_not_whole : (c : Command) (input out : Stream) (IsWritten : List ℕ → Type 0) (told : List ℕ) (line field : ℕ)
    → Does c input IsWritten → input.before ≡ Some told → IsBadFor c told line field → ⊥
bad_not_whole c input out IsWritten told line field d tells bad =
    let a = does_asked c input IsWritten told (bad_reads c told line field bad) d tells in asks_not_bad c told a.0 line field a.1 bad

pub bad_ends : (c : Command) (cause : Cause) (input out : Stream) (told : List ℕ) (line field : ℕ)
    → Stands c cause input out → input.before ≡ Some told → length told ≤ INPUT_LIMIT → IsBadFor c told line field
    → ¬ Fails input → (status_for cause ≡ 5) ⊎ (status_for cause ≡ 7)
bad_ends c Read input out told line field s tells short bad calm = absurd (calm s.1.rose)
bad_ends c Write input out told line field s tells short bad calm = absurd (bad_not_whole c input out _ told line field s.1 tells bad)
bad_ends c (Line at f) input out told line field s tells short bad calm = inl refl
bad_ends c Bytes input out told line field s tells short bad calm =
    let long : INPUT_LIMIT < length told = too_much_is_told input told tells s.1 in absurd (omega arith)
bad_ends c (Jobs at) input out told line field s tells short bad calm =
    absurd (bad_not_over_for c told line field at bad (holds_of_told input told (λ bytes. IsOverFor c bytes at) tells s))
bad_ends c Memory input out told line field s tells short bad calm = inr refl

-- ---- an input with too many jobs

pub over_not_whole : (c : Command) (input out : Stream) (IsWritten : List ℕ → Type 0) (told : List ℕ) (line : ℕ)
    → Does c input IsWritten → input.before ≡ Some told → IsOverFor c told line → ⊥
over_not_whole c input out IsWritten told line d tells over =
    let a = does_asked c input IsWritten told (over_reads c told line over) d tells in asks_not_over c told a.0 line a.1 over

pub over_ends : (c : Command) (cause : Cause) (input out : Stream) (told : List ℕ) (line : ℕ)
    → Stands c cause input out → input.before ≡ Some told → length told ≤ INPUT_LIMIT → IsOverFor c told line
    → ¬ Fails input → (status_for cause ≡ 6) ⊎ (status_for cause ≡ 7)
over_ends c Read input out told line s tells short over calm = absurd (calm s.1.rose)
over_ends c Write input out told line s tells short over calm = absurd (over_not_whole c input out _ told line s.1 tells over)
over_ends c (Line at f) input out told line s tells short over calm =
    absurd (bad_not_over_for c told at f line (holds_of_told input told (λ bytes. IsBadFor c bytes at f) tells s) over)
over_ends c Bytes input out told line s tells short over calm = inl refl
over_ends c (Jobs at) input out told line s tells short over calm = inl refl
over_ends c Memory input out told line s tells short over calm = inr refl

-- ---- an input that is too long

-- words are one command at most
pub same-command : (found : Option Command) (c d : Command) → found ≡ Some c → found ≡ Some d → d ≡ c
same-command found c d one two = let e : Some d ≡ Some c = sym two ∙ one in cc

-- a status that is one of two is the one that the cause has
pub along : {s c m n : ℕ} → s ≡ c → (c ≡ m) ⊎ (c ≡ n) → (s ≡ m) ⊎ (s ≡ n)
along e (inl h) = inl (e ∙ h)
along e (inr h) = inr (e ∙ h)

-- what stands behind the status of an input that is too long
pub status_6 : (c : Command) (cause : Cause) (input out : Stream) (status : ℕ) → Stands c cause input out → status ≡ status_for cause → status ≡ 6
    → ReadsInput c × (ReadsTooMuch input.before input.after ⊎ ((line : ℕ) × ReadsBytes input (λ bytes. IsOverFor c bytes line)))
status_6 c Read input out status s is six = let bad : 3 ≡ 6 = sym is ∙ six in absurd (omega (arith, bad))
status_6 c Write input out status s is six = let bad : 4 ≡ 6 = sym is ∙ six in absurd (omega (arith, bad))
status_6 c (Line line field) input out status s is six = let bad : 5 ≡ 6 = sym is ∙ six in absurd (omega (arith, bad))
status_6 c Bytes input out status s is six = (s.0, inl s.1)
status_6 c (Jobs line) input out status s is six = (over_reads c s.0 line s.2, inr (line, s))
status_6 c Memory input out status s is six = let bad : 7 ≡ 6 = sym is ∙ six in absurd (omega (arith, bad))
