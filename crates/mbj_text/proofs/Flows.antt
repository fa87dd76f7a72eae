-- How text flows on.
use Rattle.std.proofs.Common.{◌≡◌, ◌∙◌, ◌++◌, ◌≤◌, [], ap, sym, subst, refl, ℕ, List, Option, Result, Ok, Err}
use Rattle.std.proofs.Common.{append_assoc, append-nil, length, take, drop}
use Rattle.std.specs.Io.KnownBytes.{Appends}
use Rattle.std.proofs.KnownBytes.{Appends-nil, Appends-trans}
use Rattle.std.proofs.lemmas.List.{take-append-drop, take_all}
use Rattle.mbj_io.specs.Faults.{Rose}
use Rattle.mbj_io.specs.Streams.{Stream}
use Rattle.mbj_io.specs.declared.traits.Failed.{Failed}
use Rattle.mbj_text.specs.Flow.{GainsPrefix, WritesAll, WritesFront, Writes}
use Rattle.mbj_text.specs.Inside.Pieces.{Flows, FlowsOn}

-- two fronts, the second of what the first left
fronts : (text left last front next : List ℕ)
    → text ≡ front ++ left → left ≡ next ++ last → text ≡ (front ++ next) ++ last
fronts text left last front next first second =
    first ∙ ap (λ (l : List ℕ). front ++ l) second ∙ sym (append_assoc front next last)

-- a prefix of a text is a prefix of a longer one
front_more : (text left more front : List ℕ)
    → text ≡ front ++ left → text ++ more ≡ front ++ (left ++ more)
front_more text left more front is =
    ap (λ (l : List ℕ). l ++ more) is ∙ append_assoc front left more

-- a sink before and after a call, by what it held and by its faults
abbrev pub between : Option (List ℕ) → Option (List ℕ) → ℕ → ℕ → Stream
between before after faults_before faults_after =
    record { before = before; after = after; faults_before = faults_before; faults_after = faults_after }

-- ---- what flows

-- a write takes the front of a text
pub flows_write : {a b : Option (List ℕ)} {i j : ℕ} (n : ℕ) (text : List ℕ)
    → Appends a b (take n text) → j ≡ i → FlowsOn (between a b i j) text (drop n text)
flows_write n text written calm =
    record { flows = record { front = take n text; text_is = sym (take-append-drop n text); written = written }; calm = calm }

flows_both : {a b c : Option (List ℕ)} {text left last : List ℕ}
    → Flows a b text left → Flows b c left last → Flows a c text last
flows_both {a} {b} {c} {text} {left} {last} f g = record {
  front = f.front ++ g.front;
  text_is = fronts text left last f.front g.front f.text_is g.text_is;
  written = Appends-trans a b c f.front g.front f.written g.written;
}

-- one flow, and then another of what it left
pub flows_then : {a b c : Option (List ℕ)} {i j k : ℕ} {text left last : List ℕ}
    → FlowsOn (between a b i j) text left → FlowsOn (between b c j k) left last → FlowsOn (between a c i k) text last
flows_then f g = record { flows = flows_both f.flows g.flows; calm = g.calm ∙ f.calm }

-- a flow with more text behind
pub flows_more : {s : Stream} {text left : List ℕ} (more : List ℕ)
    → FlowsOn s text left → FlowsOn s (text ++ more) (left ++ more)
flows_more {s} {text} {left} more f = record {
  flows = record {
    front = f.flows.front;
    text_is = front_more text left more f.flows.front f.flows.text_is;
    written = f.flows.written;
  };
  calm = f.calm;
}

-- bytes that are written whole leave nothing of the text that they are
pub flows_whole : {s : Stream} {text : List ℕ} (n : ℕ) (bytes : List ℕ)
    → length bytes ≤ n → take n bytes ≡ text → WritesAll s bytes → FlowsOn s text []
flows_whole {s} {text} n bytes fits is w =
    let whole : bytes ≡ text = sym (take_all n bytes fits) ∙ is in record {
      flows = record { front = bytes; text_is = sym whole ∙ sym (append-nil bytes); written = w.written };
      calm = w.calm;
    }

-- what waits flows on together with the next part of what is left
pub flows_part : {a b c : Option (List ℕ)} {i j k : ℕ} {text last : List ℕ} (waits part more : List ℕ)
    → FlowsOn (between a b i j) text (waits ++ (part ++ more))
    → FlowsOn (between b c j k) (waits ++ part) last → FlowsOn (between a c i k) text (last ++ more)
flows_part {a} {b} {c} {i} {j} {k} {text} {last} waits part more f g =
    let Next : List ℕ → Type 0 = λ l. FlowsOn (between b c j k) l (last ++ more) in
    flows_then f (subst Next (append_assoc waits part more) (flows_more more g))

-- the front of what is left comes to what waits
pub flows_kept : {s : Stream} {text : List ℕ} (waits front after : List ℕ)
    → FlowsOn s text (waits ++ (front ++ after)) → FlowsOn s text ((waits ++ front) ++ after)
flows_kept waits front after f = rw append_assoc f

-- nothing is left behind what waits
pub flows_last : {s : Stream} {text : List ℕ} (waits : List ℕ) → FlowsOn s text (waits ++ []) → FlowsOn s text waits
flows_last waits f = rw append-nil at f

-- ---- what is written

-- a flow, and then all that it left is written
pub all_then : {a b c : Option (List ℕ)} {i j k : ℕ} {text left : List ℕ}
    → FlowsOn (between a b i j) text left → WritesAll (between b c j k) left → WritesAll (between a c i k) text
all_then {a} {b} {c} {i} {j} {k} {text} {left} f g = record {
  written = subst (Appends a c) (sym f.flows.text_is) (Appends-trans a b c f.flows.front left f.flows.written g.written);
  calm = g.calm ∙ f.calm;
}

-- a flow that left nothing
pub all_flowed : {s : Stream} {text : List ℕ} → FlowsOn s text [] → WritesAll s text
all_flowed {s} {text} f = record {
  written = subst (Appends s.before s.after) (sym (f.flows.text_is ∙ append-nil f.flows.front)) f.flows.written;
  calm = f.calm;
}

-- a flow, and then the next line of what it left is written
pub flows_line : {a b c : Option (List ℕ)} {i j k : ℕ} {text left line rest : List ℕ}
    → FlowsOn (between a b i j) text left → left ≡ line ++ rest → WritesAll (between b c j k) line
    → FlowsOn (between a c i k) text rest
flows_line {a} {b} {c} {i} {j} {k} {text} {left} {line} {rest} f next g = record {
  flows = flows_both f.flows (record { front = line; text_is = next; written = g.written });
  calm = g.calm ∙ f.calm;
}

-- before the first line nothing is written
pub flows_start : {a : Option (List ℕ)} {i : ℕ} (text : List ℕ) → FlowsOn (between a a i i) text text
flows_start {a} text = record { flows = record { front = []; text_is = refl; written = Appends-nil a }; calm = refl }

-- ---- what a fault leaves

rose_from : (i j k : ℕ) → j ≡ i → Rose j k → Rose i k
rose_from i j k e h = subst (λ n. Rose n k) e h

gains_then : {a b c : Option (List ℕ)} {text left : List ℕ}
    → Flows a b text left → GainsPrefix b c left → GainsPrefix a c text
gains_then {a} {b} {c} {text} {left} f g = record {
  front = f.front ++ g.front;
  rest = g.rest;
  text_is = fronts text left g.rest f.front g.front f.text_is g.text_is;
  written = Appends-trans a b c f.front g.front f.written g.written;
}

-- a flow, and then a prefix of what it left
pub front_then : {a b c : Option (List ℕ)} {i j k : ℕ} {text left : List ℕ}
    → FlowsOn (between a b i j) text left → WritesFront (between b c j k) left → WritesFront (between a c i k) text
front_then {a} {b} {c} {i} {j} {k} f g = record {
  front = gains_then f.flows g.front;
  failed = rose_from i j k f.calm g.failed;
  never_falls = subst (λ n. n ≤ k) f.calm g.never_falls;
}

-- a prefix of bytes is a prefix of the text that they are
pub front_whole : {s : Stream} {text : List ℕ} (n : ℕ) (bytes : List ℕ)
    → length bytes ≤ n → take n bytes ≡ text → WritesFront s bytes → WritesFront s text
front_whole {s} n bytes fits is w = subst (WritesFront s) (sym (take_all n bytes fits) ∙ is) w

-- a prefix of a text is a prefix of it with more behind
pub front_with : {s : Stream} {text : List ℕ} (more : List ℕ) → WritesFront s text → WritesFront s (text ++ more)
front_with {s} {text} more g = record {
  front = record {
    front = g.front.front;
    rest = g.front.rest ++ more;
    text_is = front_more text g.front.rest more g.front.front g.front.text_is;
    written = g.front.written;
  };
  failed = g.failed;
  never_falls = g.never_falls;
}

-- a prefix of what waits together with the next part of what is left
pub front_part : {a b c : Option (List ℕ)} {i j k : ℕ} {text : List ℕ} (waits part more : List ℕ)
    → FlowsOn (between a b i j) text (waits ++ (part ++ more))
    → WritesFront (between b c j k) (waits ++ part) → WritesFront (between a c i k) text
front_part {a} {b} {c} {i} {j} {k} {text} waits part more f g =
    let Next : List ℕ → Type 0 = λ l. WritesFront (between b c j k) l in
    front_then f (subst Next (append_assoc waits part more) (front_with more g))

-- a flow, and then a prefix of the next line of what it left
pub front_line : {a b c : Option (List ℕ)} {i j k : ℕ} {text left line : List ℕ} (rest : List ℕ)
    → FlowsOn (between a b i j) text left → left ≡ line ++ rest → WritesFront (between b c j k) line
    → WritesFront (between a c i k) text
front_line {a} {b} {c} {i} {j} {k} {text} {left} {line} rest f next g =
    let Next : List ℕ → Type 0 = λ l. WritesFront (between b c j k) l in
    front_then f (subst Next (sym next) (front_with rest g))

-- ---- answers

-- what was written before is put in front of what a last call answers
pub writes_then : (a b c : Option (List ℕ)) (i j k : ℕ) {text left : List ℕ} (answer : Result (Unit {0}) Failed)
    → FlowsOn (between a b i j) text left → Writes answer (between b c j k) left → Writes answer (between a c i k) text
writes_then a b c i j k (Ok done) f w = all_then f w
writes_then a b c i j k (Err e) f w = front_then f w

-- a text is written, and then what a last call answers
pub writes_both : (a b c : Option (List ℕ)) (i j k : ℕ) {front : List ℕ} (back : List ℕ) (answer : Result (Unit {0}) Failed)
    → WritesAll (between a b i j) front → Writes answer (between b c j k) back → Writes answer (between a c i k) (front ++ back)
writes_both a b c i j k {front} back (Ok done) f w =
    record { written = Appends-trans a b c front back f.written w.written; calm = w.calm ∙ f.calm }
writes_both a b c i j k {front} back (Err e) f w =
    front_then (record { flows = record { front = front; text_is = refl; written = f.written }; calm = f.calm }) w
