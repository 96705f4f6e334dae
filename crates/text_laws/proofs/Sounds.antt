-- Notes as they are heard are read back from their text. Assumes nothing.
use Rattle.std.proofs.Common.{◌≡◌, ℕ, ◌≤◌, false, ltb, List, ◌++◌, codes, decimal, refl, ap, ◌∙◌, append_assoc, arith}
use Rattle.std.proofs.lemmas.Bool.{and_parts, ltb-true}
use Rattle.score.specs.Music.{length_end}
use Rattle.score.specs.Promise.{field}
use Rattle.words.specs.Words.{got, begins_with_digit, most_in_one, most_in_two, most_in_four}
use Rattle.notation.specs.Notation.{sound_text}
use Rattle.text_laws.specs.Back.{SoundsBack}
use Rattle.text_laws.proofs.Numbers.{then_got, numbers_back, spaced_back}

-- the text of a sound, and more, from its front on
opened : (v s d t more : List ℕ) → (v ++ (codes " " ++ (s ++ (codes " " ++ (d ++ (codes " " ++ t)))))) ++ more ≡ v ++ (codes " " ++ (s ++ (codes " " ++ (d ++ (codes " " ++ (t ++ more))))))
opened v s d t more = simp append_assoc

module _ (v s d t : ℕ) (more : List ℕ) (hv : v ≤ most_in_one) (hs : s ≤ most_in_four) (hd : d ≤ most_in_two) (ht : t ≤ most_in_one) (e : begins_with_digit more ≡ false) where
  abbrev tone_text : List ℕ
  tone_text = codes " " ++ (decimal t ++ more)

  abbrev length_text : List ℕ
  length_text = codes " " ++ (decimal d ++ tone_text)

  abbrev start_text : List ℕ
  start_text = codes " " ++ (decimal s ++ length_text)

  pub sound_read : sound_text (decimal v ++ start_text) ≡ got (v, record { start = s; long = d; high = t }) more
  unfolding begins_with_digit
  sound_read =
      then_got _ _ _ _ (numbers_back most_in_one v start_text hv (omega arith) refl)
      ∙ then_got _ _ _ _ (spaced_back most_in_four s length_text hs (omega arith) refl)
      ∙ then_got _ _ _ _ (spaced_back most_in_two d tone_text hd (omega arith) refl)
      ∙ then_got _ _ _ _ (spaced_back most_in_one t more ht (omega arith) e)

pub sounds_back : SoundsBack
sounds_back x more h e =
    let a = and_parts (ltb x.0 256) _ h in
    let b = and_parts (field x.1.start) _ a.1 in
    let c = and_parts (ltb x.1.long length_end) (ltb x.1.high 256) b.1 in
    let hv = ltb-true _ _ a.0 in
    let hs = ltb-true _ _ b.0 in
    let hd = ltb-true _ _ c.0 in
    let ht = ltb-true _ _ c.1 in
    ap sound_text (opened (decimal x.0) (decimal x.1.start) (decimal x.1.long) (decimal x.1.high) more)
    ∙ sound_read x.0 x.1.start x.1.long x.1.high more (omega arith) (omega arith) (omega arith) (omega arith) e
