-- That the fields of a course fit: at its start, and when a step is done.
use Rattle.std.proofs.Common.{◌≡◌, ◌≢◌, ℕ, true, List, [], ◌∷◌, drop, length, Option, Some, None, refl, sym, ap, ap₂, ◌∙◌, subst}
use Rattle.std.specs.List.{All}
use Rattle.std.proofs.lemmas.List.{length-replicate}
use Rattle.std.proofs.lemmas.List.Elements.{All-nil, All-cons, All-tail, All-append}
use Rattle.mbj_types.specs.declared.job.Job.{Job}
use Rattle.mbj_types.specs.declared.job.Cipher.{Cipher}
use Rattle.mbj_types.specs.declared.job.Cipher.TheVariants as cipher
use Rattle.mbj_types.specs.declared.job.Dir.{Dir}
use Rattle.mbj_types.specs.declared.job.Dir.TheVariants.{Enc, Dec}
use Rattle.mbj_types.specs.declared.job.Order.{Order}
use Rattle.mbj_types.specs.declared.job.Order.TheVariants.{CipherHash, HashCipher}
use Rattle.mbj_types.specs.declared.reason.Reason.{Reason}
use Rattle.mbj_types.specs.Auths.{class_of}
use Rattle.mbj_types.specs.declared.class.AuthClass.{AuthClass}
use Rattle.mbj_types.specs.declared.class.AuthClass.TheVariants as class
use Rattle.mbj_types.specs.Verdict.{verdict, verdict_at}
use Rattle.mbj_stage.specs.declared.lengths.Lengths.{Lengths}
use Rattle.mbj_stage.specs.declared.stage.Step.{Step}
use Rattle.mbj_stage.specs.declared.stage.Step.TheVariants as step
use Rattle.mbj_stage.specs.Steps.{ccm_steps, cipher_steps, auth_steps, ordered, steps_with, steps_of, steps_by, stage_at}
use Rattle.mbj_stage.specs.Inside.Kept.{IsNextStep, IsStepOf, has_texts, packet_length, IsSound}
use Rattle.mbj_stage.specs.declared.stage.Stage.TheVariants as stage
use Rattle.mbj_stage.specs.CourseState.{lengths_of, sized}
use Rattle.mbj_stage.proofs.StagesOf.{stage-packet, stage-texts}

-- the one step of a list is a job's if it is so
own_one : (j : Job) (s : Step) → IsStepOf j s → All (IsStepOf j) (s ∷ [])
own_one j s h = All-cons (IsStepOf j) s [] h (All-nil (IsStepOf j))

own_cipher : (c : Cipher) (j : Job) → cipher_steps j.cipher ≡ cipher_steps c → All (IsStepOf j) (cipher_steps c)
own_cipher cipher.Null j e = All-nil (IsStepOf j)
own_cipher cipher.Cbc j e = own_one j step.Cipher e
own_cipher cipher.Ctr j e = own_one j step.Cipher e
own_cipher cipher.Gcm j e = own_one j step.Gcm e
own_cipher cipher.Ccm j e = All-nil (IsStepOf j)

own_auth : (a : AuthClass) (j : Job) → auth_steps (class_of j.auth) ≡ auth_steps a → All (IsStepOf j) (auth_steps a)
own_auth class.Null j e = All-nil (IsStepOf j)
own_auth (class.Hmac hash) j e = own_one j step.Auth e
own_auth (class.Cmac key) j e = own_one j step.Auth e
own_auth class.Gcm j e = All-nil (IsStepOf j)
own_auth class.Ccm j e = All-nil (IsStepOf j)
own_auth (class.Plain hash) j e = own_one j step.Auth e
own_auth class.Gmac j e = own_one j step.Gmac e
own_auth (class.States hash) j e = own_one j step.Auth e

own_ordered : (o : Order) (j : Job) (ciphers auths : List Step) → All (IsStepOf j) ciphers → All (IsStepOf j) auths
    → All (IsStepOf j) (ordered o ciphers auths)
own_ordered CipherHash j ciphers auths hc ha = All-append (IsStepOf j) ciphers auths hc ha
own_ordered HashCipher j ciphers auths hc ha = All-append (IsStepOf j) auths ciphers ha hc

own_ccm : (d : Dir) (j : Job) → j.cipher ≡ cipher.Ccm → All (IsStepOf j) (ccm_steps d)
own_ccm Enc j e = All-cons (IsStepOf j) step.CcmMac (step.CcmText ∷ []) e (own_one j step.CcmText e)
own_ccm Dec j e = All-cons (IsStepOf j) step.CcmText (step.CcmMac ∷ []) e (own_one j step.CcmMac e)

own_both : (c : Cipher) (j : Job) → j.cipher ≡ c → All (IsStepOf j) (ordered j.order (cipher_steps c) (auth_steps (class_of j.auth)))
own_both c j e =
    own_ordered j.order j (cipher_steps c) (auth_steps (class_of j.auth)) (own_cipher c j (ap cipher_steps e)) (own_auth (class_of j.auth) j refl)

-- the steps of a job are its own
own_with : (c : Cipher) (j : Job) → j.cipher ≡ c → All (IsStepOf j) (steps_with c j)
own_with cipher.Null j e = own_both cipher.Null j e
own_with cipher.Cbc j e = own_both cipher.Cbc j e
own_with cipher.Ctr j e = own_both cipher.Ctr j e
own_with cipher.Gcm j e = own_both cipher.Gcm j e
own_with cipher.Ccm j e = own_ccm j.dir j e

own_steps : (j : Job) → All (IsStepOf j) (steps_of j)
own_steps j = own_with j.cipher j refl

-- a job with another packet, another nonce and other data has the same steps
pub own_parts : (j : Job) (q iv aad : List ℕ) (s : Step) → IsStepOf j s → IsStepOf (record j { packet = q; iv = iv; aad = aad }) s
own_parts j q iv aad step.Cipher h = h
own_parts j q iv aad step.Auth h = h
own_parts j q iv aad step.Gcm h = h
own_parts j q iv aad step.CcmMac h = h
own_parts j q iv aad step.CcmText h = h
own_parts j q iv aad step.Gmac h = h

all_own_parts : (j : Job) (q iv aad : List ℕ) (left : List Step) → All (IsStepOf j) left
    → All (IsStepOf (record j { packet = q; iv = iv; aad = aad })) left
all_own_parts j q iv aad left h = λ k s lt. own_parts j q iv aad _ (h k s lt)

all_own_packet : (j : Job) (q : List ℕ) (left : List Step) → All (IsStepOf j) left → All (IsStepOf (record j { packet = q })) left
all_own_packet j q left h = all_own_parts j q j.iv j.aad left h

-- zero bytes have the verdict of a nonce and data as long
pub verdict-sized : (j : Job) (n : Lengths) (m : ℕ) → n ≡ lengths_of j → verdict_at (sized n j) m ≡ verdict_at j m
verdict-sized j n m is =
    ap (λ (l : Lengths). verdict_at (sized l j) m) is ∙ rw (length-replicate {A = ℕ} (length j.iv) 0, length-replicate {A = ℕ} (length j.aad) 0) refl

-- at the start
pub sound_begun : (reason : Option Reason) (j : Job) (left : List Step) → verdict j ≡ reason → left ≡ steps_by reason j
    → IsSound j left None (lengths_of j)
sound_begun None j left e steps = record {
  accepted = λ _. verdict-sized j (lengths_of j) (length j.packet) refl ∙ e;
  own = subst (All (IsStepOf j)) (sym steps) (own_steps j);
  here = λ _. refl;
  lengths = λ _ _. refl;
}
sound_begun (Some r) j left e steps = record {
  accepted = λ some. absurd (some steps);
  own = subst (All (IsStepOf j)) (sym steps) (All-nil (IsStepOf j));
  here = λ _. refl;
  lengths = λ _ _. refl;
}

-- with any job, if no step is left
pub sound_finished : (j : Job) (left : List Step) (out : Option ℕ) (n : Lengths) → left ≡ [] → IsSound j left out n
sound_finished j left out n none = record {
  accepted = λ some. absurd (some none);
  own = subst (All (IsStepOf j)) (sym none) (All-nil (IsStepOf j));
  here = λ now. let bad : stage.Finished ≡ stage.Now = ap (stage_at j) (sym none) ∙ now in cc;
  lengths = λ some _. absurd (some none);
}

-- when a step is done, which keeps the packet's length
pub sound_next : (j : Job) (q : List ℕ) (s : Step) (left : List Step) (out : Option ℕ) (n : Lengths) → IsSound j (s ∷ left) out n
    → n ≡ lengths_of j → length q ≡ packet_length out j.packet → IsSound (record j { packet = q }) left None n
sound_next j q s left out n h is len = record {
  accepted = λ _. ap (verdict_at (sized n j)) len ∙ h.accepted (λ none. cc);
  own = all_own_packet j q left (All-tail (IsStepOf j) s left h.own);
  here = λ _. refl;
  lengths = λ _ _. is;
}

-- when nonce and data come back with the packet
pub sound_texts_back : (j : Job) (q iv aad : List ℕ) (s : Step) (left : List Step) (out : Option ℕ) (n : Lengths) → IsSound j (s ∷ left) out n
    → length iv ≡ n.iv → length aad ≡ n.aad → length q ≡ packet_length out j.packet
    → IsSound (record j { packet = q; iv = iv; aad = aad }) left None n
sound_texts_back j q iv aad s left out n h i a len = record {
  accepted = λ _. ap (verdict_at (sized n j)) len ∙ h.accepted (λ none. cc);
  own = all_own_parts j q iv aad left (All-tail (IsStepOf j) s left h.own);
  here = λ _. refl;
  lengths = λ _ _. ap₂ (λ (x y : ℕ). record { iv = x; aad = y }) (sym i) (sym a);
}

-- a step whose entry has the packet alone
abbrev pub KeepsTexts : Step → Type 0
KeepsTexts step.CcmMac = ⊥
KeepsTexts s = Unit {0}

texts-kept : (m : ℕ) (s : Step) (left : List Step) → KeepsTexts s → has_texts (Some m) (s ∷ left) ≡ true
texts-kept m step.Cipher left h = refl
texts-kept m step.Auth left h = refl
texts-kept m step.Gcm left h = refl
texts-kept m step.CcmMac left h = absurd h
texts-kept m step.CcmText left h = refl
texts-kept m step.Gmac left h = refl

-- when such an entry is taken back
pub sound_taken : (j : Job) (q : List ℕ) (s : Step) (all left : List Step) (out : Option ℕ) (n : Lengths) → IsSound j all out n
    → IsNextStep s all → KeepsTexts s → out ≡ Some (length q) → left ≡ drop 1 all → IsSound (record j { packet = q }) left None n
sound_taken j q s [] left out n h next keeps is e = absurd next
sound_taken j q s (t ∷ rest) left out n h next keeps is e =
    let has = texts-kept (length q) t rest (subst KeepsTexts (sym next) keeps) in
    subst (λ (l : List Step). IsSound (record j { packet = q }) l None n) (sym e)
    (sound_next j q t rest out n h (h.lengths (λ none. cc) (ap (λ (o : Option ℕ). has_texts o (t ∷ rest)) is ∙ has))
    (sym (ap (λ (o : Option ℕ). packet_length o j.packet) is)))

-- when an entry with nonce and data is taken back
pub sound_ccm_taken : (j : Job) (q iv aad : List ℕ) (all left : List Step) (out : Option ℕ) (n : Lengths) → IsSound j all out n
    → IsNextStep step.CcmMac all → out ≡ Some (length q) → length iv ≡ n.iv → length aad ≡ n.aad → left ≡ drop 1 all
    → IsSound (record j { packet = q; iv = iv; aad = aad }) left None n
sound_ccm_taken j q iv aad [] left out n h next is i a e = absurd next
sound_ccm_taken j q iv aad (t ∷ rest) left out n h next is i a e =
    subst (λ (l : List Step). IsSound (record j { packet = q; iv = iv; aad = aad }) l None n) (sym e)
    (sound_texts_back j q iv aad t rest out n h i a (sym (ap (λ (o : Option ℕ). packet_length o j.packet) is)))

-- while the packet is out
pub sound_out : (j : Job) (q : List ℕ) (left : List Step) (out : Option ℕ) (n : Lengths) (m : ℕ) → IsSound j left out n → out ≡ None
    → m ≡ length j.packet → stage_at j left ≢ stage.Now → IsSound (record j { packet = q }) left (Some m) n
sound_out j q left out n m h none len lane = record {
  accepted = λ some. ap (verdict_at (sized n j)) (len ∙ ap (λ (o : Option ℕ). packet_length o j.packet) (sym none)) ∙ h.accepted some;
  own = all_own_packet j q left h.own;
  here = λ now. absurd (lane (sym (stage-packet j q left) ∙ now));
  lengths = λ some _. h.lengths some (ap (λ (o : Option ℕ). has_texts o left) none);
}

no-texts : (m : ℕ) (left : List Step) → IsNextStep step.CcmMac left → has_texts (Some m) left ≢ true
no-texts m [] h = absurd h
no-texts m (step.Cipher ∷ left) h = absurd (cc)
no-texts m (step.Auth ∷ left) h = absurd (cc)
no-texts m (step.Gcm ∷ left) h = absurd (cc)
no-texts m (step.CcmMac ∷ left) h = λ e. cc
no-texts m (step.CcmText ∷ left) h = absurd (cc)
no-texts m (step.Gmac ∷ left) h = absurd (cc)

-- and nonce and data with it
pub sound_texts_out : (j : Job) (q iv aad : List ℕ) (left : List Step) (out : Option ℕ) (n : Lengths) (m : ℕ) → IsSound j left out n → out ≡ None
    → m ≡ length j.packet → stage_at j left ≢ stage.Now → IsNextStep step.CcmMac left
    → IsSound (record j { packet = q; iv = iv; aad = aad }) left (Some m) n
sound_texts_out j q iv aad left out n m h none len lane first = record {
  accepted = λ some. ap (verdict_at (sized n j)) (len ∙ ap (λ (o : Option ℕ). packet_length o j.packet) (sym none)) ∙ h.accepted some;
  own = all_own_parts j q iv aad left h.own;
  here = λ now. absurd (lane (sym (stage-packet j q left) ∙ sym (stage-texts (record j { packet = q }) iv aad left) ∙ now));
  lengths = λ _ has. absurd (no-texts m left first has);
}
