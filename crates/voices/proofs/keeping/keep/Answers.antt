-- The bar of the event before the index is found, its events are marked, and the marked events are derived.
use Rattle.std.proofs.Common.{◌≡◌, ℕ, ◌+◌, ◌-◌, ◌<◌, ◌≤◌, ◌⊎◌, List, ◌++◌, length, get_or, take, drop, replicate, sym, refl, ap, ◌∙◌, subst, ap₂, inl, inr, arith}
use borrow.Rule.Slice.PartMut.{put_mid}
use Rattle.std.proofs.lemmas.List.{length-drop, length-replicate, length-take-le, get_or_append_left, get_or-take}
use Rattle.score.specs.Print.{key}
use Rattle.marks.specs.Marked.{marked}
use Rattle.memory.specs.Store.{marks_asked, limit_in, bars_from, beats_from, marks_from}
use Rattle.memory.specs.Words.{kept_anew, Deriving}
use Rattle.memory.proofs.Anew.{Begins, begun}
use Rattle.voices.proofs.Onward.{bars_is, marks_is, put_tail, room, unmarked_yet}
use Rattle.voices.proofs.keeping.keep.Goals as goal
use Rattle.voices.proofs.keeping.keep.Goals.{Joined-first-gt0, then-first-gt0, else-first-gt0}

pub part_of-requires : goal.part_of-requires
part_of-requires c = let r = room _ _ _ _ _ c.requires.unkept in omega (arith, bars_is _ c.args.words.now c.regions_of-regions.ensures.begins, r.inside, r.proper.size)

pub first_of_bar-first-requires : goal.first_of_bar-first-requires
first_of_bar-first-requires c =
    let r = room _ _ _ _ _ c.requires.unkept in
    let from : ℕ = get_or c.regions_of-regions.result.onsets 0 0 + c.args.span.begin in
    let rest : c.args.span.count ≤ length (drop from c.args.words.now) = rw (length-drop from c.args.words.now) (omega (arith, bars_is _ c.args.words.now c.regions_of-regions.ensures.begins, r.inside, r.proper.size)) in
    let l = ap length c.part_of.ensures ∙ length-take-le c.args.span.count (drop from c.args.words.now) rest in
    omega (arith, l, c.requires.range, c.requires.within)

pub overflow_add-at : goal.overflow_add-at
overflow_add-at c = let r = room _ _ _ _ _ c.requires.unkept in omega (arith, r.inside, r.proper.good_limits.2, c.requires.range, c.requires.within, c.first_of_bar-first.ensures.before)

pub onset_at-requires : goal.onset_at-requires
onset_at-requires c =
    let r = room _ _ _ _ _ c.requires.unkept in
    record {
      regions = c.regions_of-regions.ensures.begins;
      size = r.proper.size;
      within = elim c.first_of_bar-first.ensures.first [
        | inl z ↦ absurd (omega (arith, z, c.if-first-gt0.true))
        | inr q ↦ omega (arith, q.1, r.inside, c.requires.range, c.requires.within)
      ];
    }

pub overflow_add-span : goal.overflow_add-span
overflow_add-span c = let r = room _ _ _ _ _ c.requires.unkept in omega (arith, r.inside, r.proper.good_limits.2, c.requires.within)

pub mark-requires : goal.mark-requires
mark-requires c =
    let r = room _ _ _ _ _ c.requires.unkept in
    let e = unmarked_yet _ _ _ _ _ _ c.requires.unkept (marks_is _ c.args.words.now c.regions_of-regions.ensures.begins) in
    let l = ap length e ∙ length-replicate {A = ℕ} (marks_asked (limit_in c.args.words.now)) 0 in
    record {
      empty = e ∙ ap (λ n. replicate n 0) (sym l);
      range = omega (arith, c.first_of_bar-first.ensures.before, c.requires.range);
      reach = omega (arith, l, r.inside, c.requires.within);
    }

-- how the first event to be derived was found
module _ (c : Joined-first-gt0) where
  abbrev w : List ℕ
  w = c.args.words.now

  abbrev begin : ℕ
  begin = c.args.span.begin

  abbrev count : ℕ
  count = c.args.span.count

  abbrev first : ℕ
  first = c.first_of_bar-first.result

  slice_is : c.part_of.result.now ≡ take count (drop (bars_from w + begin) w)
  slice_is = c.part_of.ensures ∙ ap (λ i. take count (drop (i + begin) w)) (bars_is _ w c.regions_of-regions.ensures.begins)

  abbrev Found : ℕ → ℕ → Type 0
  Found bar tick = Begins (take count (drop (bars_from w + begin) w)) c.args.index first bar tick × (0 < first → bar ≡ get_or w (bars_from w + (begin + first)) 0) × (0 < first → tick ≡ get_or w (beats_from w + (begin + first)) 0)

  in_bars : (first ≡ 0) ⊎ ((0 < first) × (first < c.args.index) × (get_or (take count (drop (bars_from w + begin) w)) (first - 1) 0 ≡ get_or (take count (drop (bars_from w + begin) w)) first 0 → ⊥))
  in_bars = subst (λ xs. (first ≡ 0) ⊎ ((0 < first) × (first < c.args.index) × (get_or xs (first - 1) 0 ≡ get_or xs first 0 → ⊥))) slice_is c.first_of_bar-first.ensures.first

  later : (bar tick : ℕ) → 0 < first → bar ≡ get_or w (bars_from w + (begin + first)) 0 → tick ≡ get_or w (beats_from w + (begin + first)) 0 → Found bar tick
  later bar tick lt eb et = (elim in_bars [ inl z ↦ absurd (omega (arith, z, lt)) | inr q ↦ inr q ], (λ _. eb), (λ _. et))

  at_once : (0 < first → ⊥) → Found 0 0
  at_once none = (inl (omega (arith, none), refl, refl), (λ lt. absurd (none lt)), (λ lt. absurd (none lt)))

  found : Found c.if-first-gt0.bar.0 c.if-first-gt0.bar.1
  found =
      elim c.if-first-gt0.branch [
        | then-first-gt0 x ↦ simp x.bar-is (later _ _ x.if-first-gt0.true x.onset_at.ensures.bar x.onset_at.ensures.tick)
        | else-first-gt0 x ↦ simp x.bar-is (at_once (λ lt. omega (arith, lt, x.if-first-gt0.false)))
      ]

  -- the words once the events are marked
  abbrev marked_words : List ℕ
  marked_words = take (marks_from w) w ++ marked (begin + first) (begin + c.args.end) (marks_asked (limit_in w))

  starts : Deriving marked_words (begin + first) c.if-first-gt0.bar.0 c.if-first-gt0.bar.1 (key (get_or w 0 0)) × (kept_anew marked_words ≡ kept_anew w)
  starts = begun w begin count c.args.index c.args.end c.requires.unkept first c.if-first-gt0.bar.0 c.if-first-gt0.bar.1 c.first_of_bar-first.ensures.before c.requires.range c.requires.within found.0 found.1 found.2

  put_marks : (last : List ℕ) → last ≡ marked (begin + first) (begin + c.args.end) (length (take (length w - c.regions_of-regions.result.marks) (drop c.regions_of-regions.result.marks w))) →
      marked_words ≡ put_mid c.regions_of-regions.result.marks (length w - c.regions_of-regions.result.marks) w last
  put_marks last e =
      let l = ap length (unmarked_yet _ _ _ _ _ _ c.requires.unkept (marks_is _ c.args.words.now c.regions_of-regions.ensures.begins)) ∙ length-replicate {A = ℕ} (marks_asked (limit_in w)) 0 in
      sym (put_tail w last c.regions_of-regions.result.marks ∙ ap₂ (λ xs ys. xs ++ ys) (ap (λ i. take i w) (marks_is _ c.args.words.now c.regions_of-regions.ensures.begins)) (e ∙ ap (marked (begin + first) (begin + c.args.end)) l))

  -- their header is as it was
  same_key : get_or marked_words 0 0 ≡ get_or w 0 0
  same_key =
      get_or_append_left (take (marks_from w) w) _ 0 0 (omega (arith, length-take-le (marks_from w) w (omega (arith, (room _ _ _ _ _ c.requires.unkept).proper.size)))) ∙ get_or-take (marks_from w) w 0 0 (omega arith)

pub derive-requires-clause-state : goal.derive-requires-clause-state
derive-requires-clause-state c =
    let q = (goal.at.derive-requires-clause-state c).Joined-first-gt0 in
    let w : List ℕ = c.args.words.now in
    let at : ℕ = c.args.span.begin + c.first_of_bar-first.result in
    let d = subst (λ k. Deriving (marked_words q) at c.if-first-gt0.bar.0 c.if-first-gt0.bar.1 (key k)) (sym (same_key q)) (starts q).0 in
    subst (λ x. Deriving x at c.if-first-gt0.bar.0 c.if-first-gt0.bar.1 (key (get_or x 0 0))) (put_marks q c.mark.new.marks c.mark.ensures) d

pub returns : goal.returns
returns c =
    let q = (goal.at.returns c).Joined-first-gt0 in
    c.derive.ensures ∙ (ap kept_anew (sym (put_marks q c.mark.new.marks c.mark.ensures)) ∙ (starts q).1)
