-- What a put, a cut and a change do to a score: how many events there are then, how long its voices are, and all its events in a row. Assumes nothing.
use Rattle.std.proofs.Common.{◌≡◌, ℕ, zero, suc, ◌+◌, ◌-◌, ◌<◌, ◌≤◌, true, false, ◌&&◌, ltb, List, [], ◌∷◌, ◌++◌, length, get_or, take, drop, set, sum_by, sym, refl, ap, ◌∙◌, arith}
use Rattle.std.specs.List.{insert, remove}
use Rattle.std.proofs.lemmas.List.{append_assoc, length-append, length-set, length_push, map-set, take_at, drop_at, take-append-drop, drop_more, set_split, set-append_left, set-append_right, length-take-le, get_or-set_other}
use Rattle.std.proofs.lemmas.List.Edits.{length-insert, length-remove}
use Rattle.std.proofs.lemmas.List.Sums.{sum_by-set}
use Rattle.std.proofs.lemmas.Bool.{and_parts}
use Rattle.score.specs.Music.{Event, lasts, total}
use Rattle.score.specs.Calls.{put, cut, change, Score, voice, all_events, none_too_long, ticks_end, changed}
use Rattle.laws.proofs.Events.{total-++}
use Rattle.laws.specs.Onsets.{onsets_of}
use Rattle.memory.specs.Store.{flat, counts, ticks}
use Rattle.memory.specs.Owed.{OthersUnreached}
use Rattle.memory.proofs.Scores.{length_flat, flat_split, flat_set}
use Rattle.memory.proofs.Held.{events_sum}

-- ---- one voice

pub split_at : {X : Type 0} (xs : List X) (j : ℕ) (d : X) → j < length xs → xs ≡ take j xs ++ (get_or xs j d ∷ drop (suc j) xs)
split_at xs j d h =
    let e : j + 1 ≡ suc j = omega arith in
    sym (take-append-drop j xs) ∙ ap (λ y. take j xs ++ y) (drop_more xs j d h ∙ ap (λ k. get_or xs j d ∷ drop k xs) e)

-- one comes in, goes out or becomes another in the middle one of three rows
module _ {X : Type 0} (A V C : List X) (i j : ℕ) (ej : j ≡ length A + i) where
  pub inserted_among : (x : X) → i ≤ length V → insert (A ++ (V ++ C)) j x ≡ A ++ (insert V i x ++ C)
  inserted_among x li =
      let lp : length (A ++ take i V) ≡ j = length-append A (take i V) ∙ omega (arith, length-take-le i V li) in
      let b : A ++ (V ++ C) ≡ (A ++ take i V) ++ (drop i V ++ C) = ap (λ y. A ++ (y ++ C)) (sym (take-append-drop i V)) ∙ sym (regroup A (take i V) (drop i V) C) in
      let t = ap (λ y. take j y) b ∙ take_at (A ++ take i V) (drop i V ++ C) j lp in
      let d = ap (λ y. drop j y) b ∙ drop_at (A ++ take i V) (drop i V ++ C) j lp in
      let g : A ++ ((take i V ++ (x ∷ drop i V)) ++ C) ≡ (A ++ take i V) ++ (x ∷ (drop i V ++ C)) = simp append_assoc in
      sym (g ∙ (cc))
    where
      regroup : (a p q z : List X) → (a ++ p) ++ (q ++ z) ≡ a ++ ((p ++ q) ++ z)
      regroup a p q z = simp append_assoc

  pub removed_among : (x : X) → i < length V → remove (A ++ (V ++ C)) j ≡ A ++ (remove V i ++ C)
  removed_among old li =
      let x : X = get_or V i old in
      let lt = length-take-le i V (omega arith) in
      let lp : length (A ++ take i V) ≡ j = length-append A (take i V) ∙ omega arith in
      let lq : length ((A ++ take i V) ++ (x ∷ [])) ≡ suc j = length_push (A ++ take i V) x ∙ omega arith in
      let b : A ++ (V ++ C) ≡ (A ++ take i V) ++ (x ∷ (drop (suc i) V ++ C)) = ap (λ y. A ++ (y ++ C)) (split_at V i old li) ∙ sym (regroup A (take i V) (drop (suc i) V) C x) in
      let b2 : A ++ (V ++ C) ≡ ((A ++ take i V) ++ (x ∷ [])) ++ (drop (suc i) V ++ C) = b ∙ sym (append_assoc (A ++ take i V) (x ∷ []) (drop (suc i) V ++ C)) in
      let t = ap (λ y. take j y) b ∙ take_at (A ++ take i V) _ j lp in
      let d = ap (λ y. drop (suc j) y) b2 ∙ drop_at ((A ++ take i V) ++ (x ∷ [])) (drop (suc i) V ++ C) (suc j) lq in
      let g : A ++ ((take i V ++ drop (suc i) V) ++ C) ≡ (A ++ take i V) ++ (drop (suc i) V ++ C) = simp append_assoc in
      sym (g ∙ (cc))
    where
      regroup : (a p q z : List X) (x : X) → (a ++ p) ++ (x ∷ (q ++ z)) ≡ a ++ ((p ++ (x ∷ q)) ++ z)
      regroup a p q z x = simp append_assoc

  pub set_among : (x : X) → i < length V → set (A ++ (V ++ C)) j x ≡ A ++ (set V i x ++ C)
  set_among x li =
      let z : j - length A ≡ i = omega arith in
      set-append_right A (V ++ C) (length A) j x refl (omega arith)
      ∙ (ap (λ k. A ++ set (V ++ C) k x) z ∙ ap (λ y. A ++ y) (set-append_left V C i x li))

pub total_put : (V : List Event) (i : ℕ) (e : Event) → total (insert V i e) ≡ total V + lasts e
unfolding total
total_put V i e =
    let a = total-++ (take i V) (e ∷ drop i V) in
    let b = total-++ (take i V) (drop i V) in
    let c = ap total (take-append-drop i V) in
    omega arith

pub total_cut : (V : List Event) (i : ℕ) (d : Event) → i < length V → total (remove V i) + lasts (get_or V i d) ≡ total V
unfolding total
total_cut V i d lt =
    let a = total-++ (take i V) (drop (suc i) V) in
    let b = total-++ (take i V) (get_or V i d ∷ drop (suc i) V) in
    let c = ap total (split_at V i d lt) in
    omega arith

pub total_change : (V : List Event) (i : ℕ) (e d : Event) → i < length V → total (set V i e) + lasts (get_or V i d) ≡ total V + lasts e
unfolding total
total_change V i e d lt =
    let a = total-++ (take i V) (e ∷ drop (suc i) V) in
    let b = total-++ (take i V) (get_or V i d ∷ drop (suc i) V) in
    let c = ap total (split_at V i d lt) in
    let s = ap total (set_split V i e lt) in
    omega arith

-- ---- a voice becomes another

pub events_set : (s : Score) (v : ℕ) (x : List Event) → v < length s → all_events (set s v x) + length (voice s v) ≡ all_events s + length x
events_set s v x lt =
    let a : sum_by length (set s v x) + length (voice s v) ≡ sum_by length s + length x = sum_by-set length s v x [] lt in
    let b = events_sum (set s v x) in
    let c = events_sum s in
    omega arith

pub short_set : (s : Score) (v : ℕ) (x : List Event) → v < length s → none_too_long s ≡ true → none_too_long (set s v x) ≡ ltb (total x) ticks_end
unfolding none_too_long
short_set [] v x h k = absurd (omega arith)
short_set (y ∷ ys) zero x h k =
    let p = and_parts (ltb (total y) ticks_end) (none_too_long ys) k in
    elim (ltb (total x) ticks_end) as (λ b. (b && none_too_long ys) ≡ b) [ true ↦ p.1 | false ↦ refl ]
short_set (y ∷ ys) (suc v) x h k =
    let p = and_parts (ltb (total y) ticks_end) (none_too_long ys) k in
    ap (λ b. b && none_too_long (set ys v x)) p.0 ∙ short_set ys v x (omega arith) p.1

-- the others stay as they are, and so does what is kept of them
pub others_unreached : OthersUnreached
others_unreached y s v u V ne = ap (onsets_of y.in_key y.bar_long) (get_or-set_other s v u V [] ne)

-- ---- a put

module _ (s : Score) (v i : ℕ) (e : Event) (lv : v < length s) (li : i ≤ length (voice s v)) where
  pub events_put : all_events (changed s (put v i e)) ≡ suc (all_events s)
  unfolding changed
  events_put = omega (arith, events_set s v (insert (voice s v) i e) lv, length-insert (voice s v) i e li)

  pub counts_put : counts (changed s (put v i e)) ≡ set (counts s) v (length (voice s v) + 1)
  unfolding changed
  counts_put = map-set length s v _ ∙ ap (λ k. set (counts s) v k) (length-insert (voice s v) i e li)

  pub ticks_put : ticks (changed s (put v i e)) ≡ set (ticks s) v (total (voice s v) + lasts e)
  unfolding changed
  ticks_put = map-set total s v _ ∙ ap (λ k. set (ticks s) v k) (total_put (voice s v) i e)

  pub flat_put : flat (changed s (put v i e)) ≡ insert (flat s) (all_events (take v s) + i) e
  unfolding changed
  flat_put =
      let la = length_flat (take v s) in
      flat_set s v _ lv
      ∙ sym (ap (λ y. insert y (all_events (take v s) + i) e) (flat_split s v lv)
      ∙ inserted_among (flat (take v s)) (voice s v) (flat (drop (suc v) s)) i (all_events (take v s) + i) (omega arith) e li)

-- ---- a cut

module _ (s : Score) (v i : ℕ) (old : Event) (lv : v < length s) (li : i < length (voice s v)) where
  pub events_cut : all_events (changed s (cut v i)) + 1 ≡ all_events s
  unfolding changed
  events_cut = omega (arith, events_set s v (remove (voice s v) i) lv, length-remove (voice s v) i li)

  pub counts_cut : counts (changed s (cut v i)) ≡ set (counts s) v (length (voice s v) - 1)
  unfolding changed
  counts_cut =
      let n : length (remove (voice s v) i) ≡ length (voice s v) - 1 = omega (arith, length-remove (voice s v) i li) in
      map-set length s v _ ∙ ap (λ k. set (counts s) v k) n

  pub total_less : total (remove (voice s v) i) ≡ total (voice s v) - lasts (get_or (voice s v) i old)
  total_less = omega (arith, total_cut (voice s v) i old li)

  pub ticks_cut : ticks (changed s (cut v i)) ≡ set (ticks s) v (total (voice s v) - lasts (get_or (voice s v) i old))
  unfolding changed
  ticks_cut = map-set total s v _ ∙ ap (λ k. set (ticks s) v k) total_less

  pub flat_cut : flat (changed s (cut v i)) ≡ remove (flat s) (all_events (take v s) + i)
  unfolding changed
  flat_cut =
      let la = length_flat (take v s) in
      flat_set s v _ lv
      ∙ sym (ap (λ y. remove y (all_events (take v s) + i)) (flat_split s v lv)
      ∙ removed_among (flat (take v s)) (voice s v) (flat (drop (suc v) s)) i (all_events (take v s) + i) (omega arith) old li)

-- ---- a change

module _ (s : Score) (v i : ℕ) (e old : Event) (lv : v < length s) (li : i < length (voice s v)) where
  pub events_change : all_events (changed s (change v i e)) ≡ all_events s
  unfolding changed
  events_change = omega (arith, events_set s v (set (voice s v) i e) lv, length-set (voice s v) i e)

  pub counts_change : counts (changed s (change v i e)) ≡ counts s
  unfolding changed
  counts_change = map-set length s v _ ∙ (ap (λ k. set (counts s) v k) (length-set (voice s v) i e) ∙ same s v lv)
    where
      same : (s : Score) (v : ℕ) → v < length s → set (counts s) v (length (voice s v)) ≡ counts s
      same [] v h = refl
      same (y ∷ ys) zero h = refl
      same (y ∷ ys) (suc v) h = ap (λ xs. length y ∷ xs) (same ys v (omega arith))

  pub total_else : total (set (voice s v) i e) ≡ total (voice s v) - lasts (get_or (voice s v) i old) + lasts e
  total_else = omega (arith, total_change (voice s v) i e old li, total_cut (voice s v) i old li)

  pub ticks_change : ticks (changed s (change v i e)) ≡ set (ticks s) v (total (voice s v) - lasts (get_or (voice s v) i old) + lasts e)
  unfolding changed
  ticks_change = map-set total s v _ ∙ ap (λ k. set (ticks s) v k) total_else

  pub flat_change : flat (changed s (change v i e)) ≡ set (flat s) (all_events (take v s) + i) e
  unfolding changed
  flat_change =
      let la = length_flat (take v s) in
      flat_set s v _ lv
      ∙ sym (ap (λ y. set y (all_events (take v s) + i) e) (flat_split s v lv)
      ∙ set_among (flat (take v s)) (voice s v) (flat (drop (suc v) s)) i (all_events (take v s) + i) (omega arith) e li)
