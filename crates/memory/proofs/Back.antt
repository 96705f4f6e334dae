-- A score is read back from its words. Assumes nothing.
use Rattle.std.proofs.Common.{◌≡◌, ℕ, ◌+◌, ◌-◌, ◌*◌, ◌≤◌, true, eqb, List, [], ◌∷◌, ◌++◌, map, length, take, drop, replicate, sym, refl, ap, ◌∙◌, arith}
use Rattle.std.proofs.lemmas.List.{append_assoc, length-append, length-replicate, length-map, take_at, drop_at, drop-drop}
use Rattle.std.proofs.lemmas.Bool.{and_parts, ne_eqb}
use Rattle.score.specs.Music.{Event, note, silence, lasts, fine, all_fine, places}
use Rattle.score.specs.Calls.{Score}
use Rattle.score.proofs.Picks.{pick_false}
use Rattle.laws.specs.Rows.{event_of, voice_of}
use Rattle.rows.specs.Rows.{stands, alters}
use Rattle.memory.specs.Store.{spread, flat, counts, ticks, padded, laid, stored, dealt, parted}
use Rattle.memory.specs.Owed.{ScoreBack}
use Rattle.memory.proofs.Scores.{fine_place, fine_flat, length_flat}

-- ---- events in rows

pub event_back : (e : Event) → fine e ≡ true → event_of (stands e) (alters e) (lasts e) ≡ e
unfolding lasts
event_back (note p a d) h = pick_false (eqb p places) _ _ (ne_eqb p places (λ e. omega (arith, fine_place p a d h)))
event_back (silence d) h = refl

pub rows_back : (es : List Event) (ps qs rs : List ℕ) → all_fine es ≡ true → voice_of (map stands es ++ ps) (map alters es ++ qs) (map lasts es ++ rs) ≡ es ++ voice_of ps qs rs
unfolding voice_of all_fine
rows_back [] ps qs rs h = refl
rows_back (e ∷ es) ps qs rs h =
    let p = and_parts (fine e) (all_fine es) h in
    let a = event_back e p.0 in
    let b = rows_back es ps qs rs p.1 in cc

pub dealt_back : (s : Score) (es : List Event) → dealt (counts s) (flat s ++ es) ≡ s
unfolding dealt spread
dealt_back [] es = refl
dealt_back (v ∷ vs) es = rw (append_assoc v (flat vs) es, take_at v (flat vs ++ es) (length v) refl, drop_at v (flat vs ++ es) (length v) refl, dealt_back vs es)

-- ---- regions

pub length_padded : (n : ℕ) (xs : List ℕ) → length xs ≤ n → length (padded n xs) ≡ n
unfolding padded
length_padded n xs h = simp (length-append, length-replicate) (omega arith)

-- two rows of k words, two regions of n words, and what follows
module _ (k n : ℕ) (C T P Q X : List ℕ) (lc : length C ≡ k) (lt : length T ≡ k) (lp : length P ≡ n) (lq : length Q ≡ n) where
  pub to_places : drop (2 * k) (C ++ (T ++ (P ++ (Q ++ X)))) ≡ P ++ (Q ++ X)
  to_places =
      ap (λ w. drop (2 * k) w) (sym (append_assoc C T (P ++ (Q ++ X))))
      ∙ drop_at (C ++ T) (P ++ (Q ++ X)) (2 * k) (omega (arith, length-append C T))

  pub to_alterations : drop (2 * k + n) (C ++ (T ++ (P ++ (Q ++ X)))) ≡ Q ++ X
  to_alterations = sym (drop-drop n (2 * k) _) ∙ (ap (λ w. drop n w) to_places ∙ drop_at P (Q ++ X) n lp)

  pub to_lengths : drop (2 * k + n + n) (C ++ (T ++ (P ++ (Q ++ X)))) ≡ X
  to_lengths = sym (drop-drop n (2 * k + n) _) ∙ (ap (λ w. drop n w) to_alterations ∙ drop_at Q X n lq)

  pub parted_is : (R K : List ℕ) → X ≡ R ++ K → length R ≡ n → parted k n (C ++ (T ++ (P ++ (Q ++ X)))) ≡ dealt C (voice_of P Q R)
  unfolding parted
  parted_is R K e lr =
      let c = take_at C (T ++ (P ++ (Q ++ X))) k lc in
      let p = ap (λ w. take n w) to_places ∙ take_at P (Q ++ X) n lp in
      let q = ap (λ w. take n w) to_alterations ∙ take_at Q X n lq in
      let r = ap (λ w. take n w) (to_lengths ∙ e) ∙ take_at R K n lr in
      cc

-- the zeros behind the events, read as events
abbrev over : ℕ → List Event → List Event
over n es = voice_of (replicate (n - length (map stands es)) 0) (replicate (n - length (map alters es)) 0) (replicate (n - length (map lasts es)) 0)

rows_padded : (n : ℕ) (es : List Event) → all_fine es ≡ true → voice_of (padded n (map stands es)) (padded n (map alters es)) (padded n (map lasts es)) ≡ es ++ over n es
unfolding padded
rows_padded n es ok = rows_back es _ _ _ ok

-- ---- of what is stored

-- a region of n words has so many
pub length_region : {X : Type 0} (f : X → ℕ) (n : ℕ) (xs : List X) → length xs ≤ n → length (padded n (map f xs)) ≡ n
length_region f n xs le = length_padded n (map f xs) (simp length-map le)

-- how long its parts are
module _ {k n : ℕ} (s : Score) (so_many : length s ≡ k) (le : length (flat s) ≤ n) where
  pub length_counts : length (counts s) ≡ k
  length_counts = length-map s length ∙ so_many

  pub length_ticks : length (ticks s) ≡ k
  length_ticks = length-map s Rattle.score.specs.Music.total ∙ so_many

  pub parted_back : (K : List ℕ) → all_fine (flat s) ≡ true → parted k n (laid n s K) ≡ s
  parted_back K ok =
      parted_is k n (counts s) (ticks s) (padded n (map stands (flat s))) (padded n (map alters (flat s))) _
      length_counts length_ticks (length_region stands n (flat s) le) (length_region alters n (flat s) le) (padded n (map lasts (flat s))) K refl (length_region lasts n (flat s) le)
      ∙ (ap (dealt (counts s)) (rows_padded n (flat s) ok) ∙ dealt_back s (over n (flat s)))

pub score_back : ScoreBack
unfolding stored
score_back l y s k =
    let le : length (flat s) ≤ l.events = rw (length_flat s) k.fitting in
    parted_back s k.so_many le _ (fine_flat s k.fines)
