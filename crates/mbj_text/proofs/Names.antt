-- The table of the forms and the record of the fields' names say the same.
use Rattle.std.proofs.Common.{◌≡◌, ◌∙◌, ap, sym, subst, refl, drop, arith, ℕ, List, [], ◌∷◌}
use Rattle.mbj_types.specs.declared.job.Job.{Job}
use Rattle.std.specs.Prelude.{decimal}
use Rattle.mbj_text.specs.Words.{auth_word}
use Rattle.mbj_text.specs.Spelling.{Spells, SpellsFields, SpellsNumber, SpellsByName, Spelled, Value, Values, values, Form, CipherWord, DirWord, OrderWord, AuthWord, Hex, CipherKey, Number, Below, forms, fields_of}
use Rattle.mbj_text.specs.File.{TableAndNamesAgree}

-- the first field, and the others
record Next (form : Form) (rest : List Form) (texts : List (List ℕ)) (v : Value form) (vs : Values rest) : Type 0 where
  text : List ℕ
  left : List (List ℕ)
  cut_so : texts ≡ text ∷ left
  is : Spelled form text v
  more : SpellsFields rest left vs

-- there is a first field
next : (form : Form) (rest : List Form) (texts : List (List ℕ)) (v : Value form) (vs : Values rest) → SpellsFields (form ∷ rest) texts (v, vs) → Next form rest texts v vs
next form rest [] v vs s = absurd s
next form rest (t ∷ ts) v vs s = record { text = t; left = ts; cut_so = refl; is = s.0; more = s.1 }

-- it is known what its text is, and what the others are
known : {form : Form} {rest : List Form} {texts : List (List ℕ)} {v : Value form} {vs : Values rest} (n : Next form rest texts v vs)
    {text : List ℕ} {more : List (List ℕ)} → n.text ≡ text → n.left ≡ more → texts ≡ text ∷ more
known n {text} is others = n.cut_so ∙ ap (λ (t : List ℕ). t ∷ n.left) is ∙ ap (◌∷◌ text) others

-- there is no field more
ended : (texts : List (List ℕ)) → SpellsFields [] texts tt → texts ≡ []
ended [] s = refl
ended (t ∷ ts) s = absurd s

-- from the table to the names
pub by_name : (keys : List (List ℕ)) (line : List ℕ) (j : Job) → Spells keys line j → SpellsByName keys line j
by_name keys line j s =
    let f1 = next CipherWord (drop 1 (forms keys)) (fields_of line) j.cipher (values keys j).1 s in
    let f2 = next DirWord (drop 2 (forms keys)) f1.left j.dir (values keys j).1.1 f1.more in
    let f3 = next OrderWord (drop 3 (forms keys)) f2.left j.order (values keys j).1.1.1 f2.more in
    let f4 = next (CipherKey keys) (drop 4 (forms keys)) f3.left (j.key, j.session) (values keys j).1.1.1.1 f3.more in
    let f5 = next Hex (drop 5 (forms keys)) f4.left j.iv (values keys j).1.1.1.1.1 f4.more in
    let f6 = next Number (drop 6 (forms keys)) f5.left j.cipher_off (values keys j).1.1.1.1.1.1 f5.more in
    let f7 = next Number (drop 7 (forms keys)) f6.left j.cipher_len (values keys j).1.1.1.1.1.1.1 f6.more in
    let f8 = next AuthWord (drop 8 (forms keys)) f7.left j.auth (values keys j).1.1.1.1.1.1.1.1 f7.more in
    let f9 = next Hex (drop 9 (forms keys)) f8.left j.auth_key (values keys j).1.1.1.1.1.1.1.1.1 f8.more in
    let f10 = next Hex (drop 10 (forms keys)) f9.left j.aad (values keys j).1.1.1.1.1.1.1.1.1.1 f9.more in
    let f11 = next Number (drop 11 (forms keys)) f10.left j.hash_off (values keys j).1.1.1.1.1.1.1.1.1.1.1 f10.more in
    let f12 = next Number (drop 12 (forms keys)) f11.left j.hash_len (values keys j).1.1.1.1.1.1.1.1.1.1.1.1 f11.more in
    let f13 = next (Below 256) (drop 13 (forms keys)) f12.left j.tag_len (values keys j).1.1.1.1.1.1.1.1.1.1.1.1.1 f12.more in
    let f14 = next Hex (drop 14 (forms keys)) f13.left j.packet (values keys j).1.1.1.1.1.1.1.1.1.1.1.1.1.1 f13.more in
    record {
      key = f4.text;
      iv = f5.text;
      auth_key = f9.text;
      aad = f10.text;
      packet = f14.text;
      fields =
          known f1 f1.is (known f2 f2.is (known f3 f3.is (known f4 refl (known f5 refl (known f6 f6.is.0 (known f7 f7.is.0
          (known f8 f8.is (known f9 refl (known f10 refl (known f11 f11.is.0 (known f12 f12.is.0 (known f13 f13.is.0.0
          (known f14 refl (ended f14.left f14.more))))))))))))));
      key_is = f4.is;
      iv_is = f5.is;
      auth_key_is = f9.is;
      aad_is = f10.is;
      packet_is = f14.is;
      cipher_off_fits = f6.is.1;
      cipher_len_fits = f7.is.1;
      hash_off_fits = f11.is.1;
      hash_len_fits = f12.is.1;
      tag_len_fits = f13.is.1;
    }

-- from the names to the table
by_table : (keys : List (List ℕ)) (line : List ℕ) (j : Job) → SpellsByName keys line j → Spells keys line j
by_table keys line j n =
    let P : List (List ℕ) → Type 0 = λ texts. SpellsFields (forms keys) texts (values keys j) in
    let tag : SpellsNumber (decimal j.tag_len) j.tag_len = (refl, omega (arith, n.tag_len_fits)) in
    let hash_texts : List (List ℕ) = decimal j.hash_off ∷ decimal j.hash_len ∷ decimal j.tag_len ∷ n.packet ∷ [] in
    let hash_values : Values (drop 10 (forms keys)) = (j.hash_off, (j.hash_len, (j.tag_len, (j.packet, tt)))) in
    let hash : SpellsFields (drop 10 (forms keys)) hash_texts hash_values =
    ((refl, n.hash_off_fits), ((refl, n.hash_len_fits), ((tag, n.tag_len_fits), (n.packet_is, tt)))) in
    let auth : SpellsFields (drop 7 (forms keys)) (auth_word j.auth ∷ n.auth_key ∷ n.aad ∷ hash_texts) (j.auth, (j.auth_key, (j.aad, hash_values))) =
    (refl, (n.auth_key_is, (n.aad_is, hash))) in
    subst P (sym n.fields) (refl, (refl, (refl, (n.key_is, (n.iv_is, ((refl, n.cipher_off_fits), ((refl, n.cipher_len_fits), auth)))))))

-- both ways
pub same : TableAndNamesAgree
same keys line j = (by_name keys line j, by_table keys line j)
