-- Parts and lines one after another, as texts and as lists.
use Rattle.std.proofs.Common.{◌≡◌, ◌∙◌, ◌<◌, ◌+◌, ◌++◌, [], ◌∷◌, append_assoc, ap, refl, sym, ℕ, suc, List, length, drop, get_or, flat_map, arith}
use Rattle.std.proofs.Math.Seq.{drop-cons}
use Rattle.mbj_text.specs.Line.{text_before, text_of}
use Rattle.mbj_text.specs.declared.line.Part.{Part}

-- f of each element from the i-th on begins with that of the i-th
pub flat-next : {A B : Type 0} (f : A → List B) (xs : List A) (i : ℕ) (d : A) → i < length xs
    → flat_map f (drop i xs) ≡ f (get_or xs i d) ++ flat_map f (drop (i + 1) xs)
flat-next f xs i d below =
    let one : suc i ≡ i + 1 = omega arith in
    ap (flat_map f) (drop-cons xs i d below) ∙ ap (λ j. f (get_or xs i d) ++ flat_map f (drop j xs)) one

-- the text from the i-th line on begins with that line
pub next-text : {L : Type 0} (text_of : L → List ℕ) (lines : List L) (i : ℕ) (d x : L) → i < length lines → x ≡ get_or lines i d
    → flat_map text_of (drop i lines) ≡ text_of x ++ flat_map text_of (drop (i + 1) lines)
next-text text_of lines i d x below is =
    flat-next text_of lines i d below ∙ ap (λ y. text_of y ++ flat_map text_of (drop (i + 1) lines)) (sym is)

-- the text of parts, and what stands behind them
pub text_before-cut : (parts : List Part) (rest : List ℕ) → text_before parts rest ≡ text_before parts [] ++ rest
text_before-cut [] rest = refl
text_before-cut (part ∷ parts) rest =
    ap (λ l. text_of part ++ l) (text_before-cut parts rest) ∙ sym (append_assoc (text_of part) (text_before parts []) rest)
