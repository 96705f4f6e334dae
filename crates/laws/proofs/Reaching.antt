-- What a change reaches of the onsets of a voice: none before it, and if it is as long as what was there, none behind the next bar line. Assumes nothing.
use Rattle.std.proofs.Common.{◌≡◌, ℕ, zero, suc, ◌+◌, ◌*◌, ◌/◌, ◌%◌, ◌<◌, ◌≤◌, true, eqb, ◌⊎◌, List, [], ◌∷◌, length, get_or, take, drop, set, sym, refl, ap, ◌∙◌, ap₂, inl, inr, mod-lt, mul-le-mul_left, div-add-mod', arith}
use native.Mathlib.Nat.{div-eq_of_lt}
use Rattle.std.proofs.lemmas.List.{drop_more, drop-drop, get_or-drop, get_or-map}
use Rattle.std.proofs.lemmas.Bool.{le-leb, cases_lt, and_parts, ltb-true}
use Rattle.score.specs.Music.{Event, note, silence, lasts, total, fine, all_fine}
use Rattle.score.specs.Print.{key}
use Rattle.score.proofs.Picks.{pick_true, pick_both}
use Rattle.laws.specs.Onsets.{Onset, sign_at, onsets, onsets_of, bars_of, OnsetsStay, OnsetsAfter}
use Rattle.laws.proofs.Onsets.{held_behind, length_onsets}

abbrev pub no_onset : Onset
no_onset = record { bar = 0; tick = 0; sign = 0 }

module _ (k b : ℕ) where
  -- one event later: the bar, and the tick of it
  abbrev pub bar_behind : ℕ → ℕ → Event → ℕ
  bar_behind n o e = n + (o + lasts e) / b

  abbrev pub tick_behind : ℕ → Event → ℕ
  tick_behind o e = (o + lasts e) % b

  -- an event that ends in its bar stays in it
  here_bar : (n o : ℕ) (e : Event) → o + lasts e < b → bar_behind n o e ≡ n
  here_bar n o e h = let z : (o + lasts e) / b ≡ 0 = div-eq_of_lt h in omega arith

  -- a bar line makes forget what held
  line_forgets : (o : ℕ) (st su : ℕ → ℕ) (d e : Event) → lasts d ≡ lasts e → b ≤ o + lasts d → held_behind k b o st d ≡ held_behind k b o su e
  line_forgets o st su d e same over = pick_true _ _ _ (le-leb b (o + lasts d) over) ∙ sym (pick_true _ _ _ (le-leb b (o + lasts e) (omega arith)))

  -- ---- onsets before a change stay, whatever comes behind

  pub onsets_take : (es : List Event) (i n o : ℕ) (st : ℕ → ℕ) → take i (onsets k b n o st es) ≡ onsets k b n o st (take i es)
  unfolding onsets
  onsets_take [] zero n o st = refl
  onsets_take [] (suc i) n o st = refl
  onsets_take (e ∷ es) zero n o st = refl
  onsets_take (e ∷ es) (suc i) n o st =
      ap (λ os. record { bar = n; tick = o; sign = sign_at st e } ∷ os) (onsets_take es i (bar_behind n o e) (tick_behind o e) (held_behind k b o st e))

  -- ---- onsets of later bars stay, whatever held in this one: from event t on, which begins in another bar, if it is there

  abbrev Elsewhere : ℕ → List Onset → ℕ → Type 0
  Elsewhere n os t = (length os ≤ t) ⊎ ((get_or os t no_onset).bar ≡ n → ⊥)

  later_bars : (es : List Event) (t n o : ℕ) (st su : ℕ → ℕ) → Elsewhere n (onsets k b n o st es) t → drop t (onsets k b n o st es) ≡ drop t (onsets k b n o su es)
  unfolding onsets
  later_bars [] t n o st su h = refl
  later_bars (e ∷ es) zero n o st su (inl h) = absurd (omega arith)
  later_bars (e ∷ es) zero n o st su (inr h) = absurd (h refl)
  later_bars (e ∷ es) (suc t) n o st su h =
      go (cases_lt (o + lasts e) b) (λ q. later_bars es t (bar_behind n o e) (tick_behind o e) (held_behind k b o st e) (held_behind k b o su e) q)
    where
      N : ℕ
      N = bar_behind n o e

      O : ℕ
      O = tick_behind o e

      Alike : Type 0
      Alike = drop t (onsets k b N O (held_behind k b o st e) es) ≡ drop t (onsets k b N O (held_behind k b o su e) es)

      there : o + lasts e < b → Elsewhere n (onsets k b n o st (e ∷ es)) (suc t) → Elsewhere N (onsets k b N O (held_behind k b o st e) es) t
      there l (inl g) = inl (omega arith)
      there l (inr g) = inr (λ z. g (z ∙ here_bar n o e l))

      go : (o + lasts e < b) ⊎ (b ≤ o + lasts e) → (Elsewhere N (onsets k b N O (held_behind k b o st e) es) t → Alike) → Alike
      go (inl l) ih = ih (there l h)
      go (inr l) ih = ap (λ (g : ℕ → ℕ). drop t (onsets k b N O g es)) (line_forgets o st su e e refl l)

  -- so an event that becomes another as long reaches only the onsets of its own bar
  pub same_behind : (es : List Event) (i t n o : ℕ) (st : ℕ → ℕ) (d e : Event) → i < length es → lasts e ≡ lasts (get_or es i d) → i < t →
      Elsewhere (get_or (onsets k b n o st es) i no_onset).bar (onsets k b n o st es) t →
      drop t (onsets k b n o st (set es i e)) ≡ drop t (onsets k b n o st es)
  unfolding onsets
  same_behind [] i t n o st d e li same lt h = absurd (omega arith)
  same_behind (x ∷ es) zero zero n o st d e li same lt h = absurd (omega arith)
  same_behind (x ∷ es) (suc i) zero n o st d e li same lt h = absurd (omega arith)
  same_behind (x ∷ es) zero (suc t) n o st d e li same lt h =
      ap (λ (g : ℕ). drop t (onsets k b (n + (o + g) / b) ((o + g) % b) (held_behind k b o st e) es)) same ∙ go (cases_lt (o + lasts x) b) h
    where
      N : ℕ
      N = bar_behind n o x

      O : ℕ
      O = tick_behind o x

      there : o + lasts x < b → Elsewhere n (onsets k b n o st (x ∷ es)) (suc t) → Elsewhere N (onsets k b N O (held_behind k b o st x) es) t
      there l (inl g) = inl (omega arith)
      there l (inr g) = inr (λ z. g (z ∙ here_bar n o x l))

      go : (o + lasts x < b) ⊎ (b ≤ o + lasts x) → Elsewhere n (onsets k b n o st (x ∷ es)) (suc t) →
          drop t (onsets k b N O (held_behind k b o st e) es) ≡ drop t (onsets k b N O (held_behind k b o st x) es)
      go (inl l) g = sym (later_bars es t N O (held_behind k b o st x) (held_behind k b o st e) (there l g))
      go (inr l) g = ap (λ (f : ℕ → ℕ). drop t (onsets k b N O f es)) (sym (line_forgets o st st x e (sym same) l))
  same_behind (x ∷ es) (suc i) (suc t) n o st d e li same lt h =
      same_behind es i t (bar_behind n o x) (tick_behind o x) (held_behind k b o st x) d e (omega arith) same (omega arith) (there h)
    where
      there : Elsewhere (get_or (onsets k b n o st (x ∷ es)) (suc i) no_onset).bar (onsets k b n o st (x ∷ es)) (suc t) →
          Elsewhere (get_or (onsets k b (bar_behind n o x) (tick_behind o x) (held_behind k b o st x) es) i no_onset).bar (onsets k b (bar_behind n o x) (tick_behind o x) (held_behind k b o st x) es) t
      there (inl g) = inl (omega arith)
      there (inr g) = inr g

  -- ---- the first event of a bar: the key holds there

  pub first_of_bar : (es : List Event) (r n o : ℕ) (st : ℕ → ℕ) → suc r < length es →
      ((get_or (onsets k b n o st es) r no_onset).bar ≡ (get_or (onsets k b n o st es) (suc r) no_onset).bar → ⊥) →
      drop (suc r) (onsets k b n o st es)
      ≡ onsets k b (get_or (onsets k b n o st es) (suc r) no_onset).bar (get_or (onsets k b n o st es) (suc r) no_onset).tick (key k) (drop (suc r) es)
  unfolding onsets
  first_of_bar [] r n o st lr h = absurd (omega arith)
  first_of_bar (x ∷ []) r n o st lr h = absurd (omega arith)
  first_of_bar (x ∷ (y ∷ es)) zero n o st lr h =
      ap (λ (g : ℕ → ℕ). onsets k b (bar_behind n o x) (tick_behind o x) g (y ∷ es)) (go (cases_lt (o + lasts x) b))
    where
      go : (o + lasts x < b) ⊎ (b ≤ o + lasts x) → held_behind k b o st x ≡ key k
      go (inl l) = absurd (h (sym (here_bar n o x l)))
      go (inr l) = pick_true _ _ _ (le-leb b (o + lasts x) l)
  first_of_bar (x ∷ (y ∷ es)) (suc r) n o st lr h =
      first_of_bar (y ∷ es) r (bar_behind n o x) (tick_behind o x) (held_behind k b o st x) (omega arith) h

  -- ---- one onset after the other

  pub next_onset : (es : List Event) (j n o : ℕ) (st : ℕ → ℕ) (os : List Onset) (e : Event) → j < length es → get_or es j (silence 0) ≡ e → drop j os ≡ onsets k b n o st (drop j es) →
      (get_or os j no_onset ≡ record { bar = n; tick = o; sign = sign_at st e }) × (drop (suc j) os ≡ onsets k b (bar_behind n o e) (tick_behind o e) (held_behind k b o st e) (drop (suc j) es))
  unfolding onsets
  next_onset es j n o st os e lj ee h =
      let s : j + 1 ≡ suc j = omega arith in
      let d : drop j es ≡ e ∷ drop (suc j) es = drop_more es j (silence 0) lj ∙ ap₂ (λ (x : Event) (i : ℕ). x ∷ drop i es) ee s in
      let os_is : drop j os ≡ record { bar = n; tick = o; sign = sign_at st e } ∷ onsets k b (bar_behind n o e) (tick_behind o e) (held_behind k b o st e) (drop (suc j) es) =
      h ∙ ap (onsets k b n o st) d in (
        (let z : j + 0 ≡ j = omega arith in sym (ap (λ i. get_or os i no_onset) z) ∙ (sym (get_or-drop j os 0 no_onset) ∙ ap (λ xs. get_or xs 0 no_onset) os_is)),
        (sym (ap (λ i. drop i os) s) ∙ (sym (drop-drop 1 j os) ∙ ap (drop 1) os_is)),
      )

  -- ---- how large they are

  pub record Small (B : ℕ) (x : Onset) : Type 0 where
    pub bar_small : x.bar < B
    pub tick_small : x.tick < b
    pub sign_small : x.sign ≤ 5

  sign_least : (st : ℕ → ℕ) (e : Event) → fine e ≡ true → sign_at st e ≤ 5
  unfolding sign_at fine
  sign_least st (note p a d) f = pick_both (λ n. n ≤ 5) (eqb (st p) a) 0 (suc a) (λ _. omega arith) (λ _. omega (arith, ltb-true a 5 (and_parts _ _ (and_parts _ _ f).0).1))
  sign_least st (silence d) f = omega arith

  behind_le : (n o : ℕ) (e : Event) → 0 < b → bar_behind n o e + tick_behind o e ≤ n + o + lasts e
  behind_le n o e h =
      let x : ℕ = o + lasts e in
      let a : x / b * b + x % b ≡ x = div-add-mod' x b in
      let c : x / b * 1 ≤ x / b * b = mul-le-mul_left (x / b) h in
      omega arith

  pub onsets_small : (es : List Event) (i n o : ℕ) (st : ℕ → ℕ) (B : ℕ) → o < b → n + o + total es < B → all_fine es ≡ true → i < length es → Small B (get_or (onsets k b n o st es) i no_onset)
  unfolding onsets total all_fine
  onsets_small [] i n o st B ob tb f li = absurd (omega arith)
  onsets_small (e ∷ es) zero n o st B ob tb f li = record { bar_small = omega arith; tick_small = ob; sign_small = sign_least st e (and_parts _ _ f).0 }
  onsets_small (e ∷ es) (suc i) n o st B ob tb f li =
      let le = behind_le n o e (omega arith) in
      onsets_small es i (bar_behind n o e) (tick_behind o e) (held_behind k b o st e) B (mod-lt (o + lasts e) (omega arith)) (omega arith) (and_parts (fine e) _ f).1 (omega arith)

-- ---- what a change reaches

pub onsets_stay : OnsetsStay
onsets_stay k b i es fs e = onsets_take k b es i 0 0 (key k) ∙ (ap (onsets_of k b) e ∙ sym (onsets_take k b fs i 0 0 (key k)))

pub onsets_after : OnsetsAfter
onsets_after k b i t es e lt le same other =
    let l = length_onsets k b 0 0 (key k) es in
    let bar : (j : ℕ) → j < length es → get_or (bars_of k b es) j 0 ≡ (get_or (onsets_of k b es) j no_onset).bar = λ j lj. get_or-map (λ x. x.bar) (onsets_of k b es) j no_onset 0 (omega arith) in
    same_behind k b es i t 0 0 (key k) (silence 0) e (omega arith) same lt (inr (λ z. other (bar t le ∙ (z ∙ sym (bar i (omega arith))))))
