-- The first event of a voice that begins at a tick or later is the one that a walk comes to. Assumes nothing.
use Rattle.std.proofs.Common.{◌≡◌, ℕ, zero, suc, ◌+◌, ◌-◌, ◌*◌, ◌/◌, ◌^◌, ◌<◌, ◌≤◌, ltb, List, [], ◌∷◌, length, get_or, take, drop, sum, sym, refl, ap, ◌∙◌, mul-le-mul_right, arith}
use Rattle.std.proofs.lemmas.List.{drop_all}
use Rattle.std.proofs.lemmas.List.Sums.{sum_by-cons, sum_by-take-le, sum_by-take-drop}
use Rattle.std.proofs.lemmas.Bool.{lt-ltb, le-ltb}
use Rattle.score.proofs.Picks.{pick_true, pick_false}
use Rattle.sounds.specs.Spans.{passed, note_ticks, ticks_from, marks, start_at, InOrder, Timed, AllBefore, Reached, Laid, part, AllTimed}
use Rattle.sounds.proofs.Parts.{part_is, rest_is, part_long}
use Rattle.sounds.proofs.Walks.{ticks_no_lengths, marks_none}
use Rattle.sounds.proofs.Marked.{part_short}

-- an event in a bar before that of tick a begins before tick a
pub earlier_bar : {m : ℕ} {bs ts : List ℕ} (a i : ℕ) → InOrder m bs ts → i < length bs → get_or bs i 0 < a / m → start_at m bs ts i < a
earlier_bar {m} {bs} {ts} a i o l h =
    let over : suc (get_or bs i 0) * m ≤ a / m * m = mul-le-mul_right m h in
    let whole : a / m * m ≤ a = omega (arith, o.positive) in
    omega (arith, o.in_bar i l, over, whole)

-- so many events begin before tick a of a voice that begins at tick t
passed_is : (a t r : ℕ) (ds : List ℕ) → r ≤ length ds → ((i : ℕ) → i < r → t + sum (take i ds) < a) → (r < length ds → a ≤ t + sum (take r ds)) → r ≡ passed a t ds
unfolding passed
passed_is a t zero [] l b h = refl
passed_is a t (suc r) [] l b h = absurd (omega arith)
passed_is a t zero (d ∷ ds) l b h = sym (pick_false (ltb t a) _ _ (le-ltb _ _ (let q = h (omega arith) in omega arith)))
passed_is a t (suc r) (d ∷ ds) l b h =
    let first : t < a = let q = b 0 (omega arith) in omega arith in
    let more : (i : ℕ) → t + sum (take (suc i) (d ∷ ds)) ≡ t + d + sum (take i ds) = λ i. let q = sum_by-cons (λ x. x) d (take i ds) in omega arith in
    ap suc (passed_is a (t + d) r ds (omega arith) (λ i q. omega (arith, b (suc i) (omega arith), more i)) (λ q. omega (arith, h (omega arith), more r)))
    ∙ sym (pick_true (ltb t a) _ _ (lt-ltb _ _ first))

module _ {m : ℕ} {bs ts ds : List ℕ} (positive : 0 < m) (short : sum ds < 2 ^ 31) (timed : Timed m bs ts ds) where
  pub timed_order : InOrder m bs ts
  timed_order = record {
    positive = positive;
    ticks_too = timed.ticks_too ∙ sym timed.bars_too;
    rise = timed.rise;
    in_bar = λ i l. (timed.begins i (omega (arith, timed.bars_too))).1;
    small = λ i l. omega (arith, (timed.begins i (omega (arith, timed.bars_too))).0, sum_by-take-le (λ x. x) ds i);
  }

-- what a walk comes to: r events are passed before tick a
pub record Came (a : ℕ) (ds : List ℕ) (r : ℕ) : Type 0 where
  pub inside : r ≤ length ds
  pub index : r ≡ passed a 0 ds
  pub late : r < length ds → a ≤ sum (take r ds)

module _ {a m : ℕ} {bs ts ds : List ℕ} (timed : Timed m bs ts ds) where
  pub came_behind : (n : ℕ) → n ≡ length ds → AllBefore a m bs ts (length bs) → Came a ds n
  came_behind n e before = record {
    inside = omega arith;
    index = passed_is a 0 n ds (omega arith) (λ i l. omega (arith, before i (omega (arith, timed.bars_too)), (timed.begins i (omega arith)).0)) (λ l. absurd (omega arith));
    late = λ l. absurd (omega arith);
  }

  module _ {r t : ℕ} (reached : Reached a m bs ts r t) where
    pub reached_inside : r < length ds
    reached_inside = omega (arith, reached.there, timed.bars_too)

    pub reached_tick : t ≡ sum (take r ds)
    reached_tick = reached.begins ∙ (timed.begins r reached_inside).0

    pub came_to : Came a ds r
    came_to = record {
      inside = omega (arith, reached_inside);
      index = passed_is a 0 r ds (omega (arith, reached_inside)) (λ i l. omega (arith, reached.before i l, (timed.begins i (omega (arith, reached_inside))).0)) (λ l. omega (arith, reached.late, reached_tick));
      late = λ l. omega (arith, reached.late, reached_tick);
    }

    pub reached_short : sum ds < 2 ^ 31 → t + sum (drop r ds) < 2 ^ 32
    reached_short short = omega (arith, reached_tick, sum_by-take-drop (λ x. x) ds r)

-- ---- the same of a voice's part of the rows, as the code takes it

module _ {ns ps xs ds bs ts : List ℕ} {m u begin count : ℕ} (laid : Laid ns ps xs ds) (timed : AllTimed ns ds m bs ts) (there : u < length ns) (begins_at : begin ≡ sum (take u ns)) (counts_are : count ≡ get_or ns u 0) where
  abbrev own_row : List ℕ → List ℕ
  own_row ws = take (begin + count - begin) (drop begin ws)

  own_is : (ws : List ℕ) → own_row ws ≡ part ns u ws
  own_is = part_is ns u begins_at counts_are

  own_rest : (r : ℕ) (ws : List ℕ) → take (begin + count - (begin + r)) (drop (begin + r) ws) ≡ drop r (part ns u ws)
  own_rest = rest_is ns u begins_at counts_are

  short : sum (part ns u ds) < 2 ^ 31
  short = omega (arith, part_short ns ps xs ds laid u)

  pub own_order : InOrder m (own_row bs) (own_row ts)
  own_order = rw (own_is bs, own_is ts) (timed_order timed.positive short (timed.each u there))

  -- none is reached
  module _ {a : ℕ} (before : AllBefore a m (own_row bs) (own_row ts) (length (own_row bs))) where
    pub own_behind : Came a (part ns u ds) count
    own_behind =
        came_behind (timed.each u there) count (counts_are ∙ sym (part_long ns u ds there (omega (arith, laid.fitting, laid.lengths_too))))
        (rw (own_is bs, own_is ts) at before)

    -- and no slot is marked
    pub marks_behind : (v first e : ℕ) (ms : List ℕ) → ms ≡ marks v first (ticks_from e (part ns u ps) (part ns u ds) count) ms
    marks_behind v first e ms =
        let many = part_long ns u ds there (omega (arith, laid.fitting, laid.lengths_too)) in
        sym (marks_none v first _ ms (ticks_no_lengths e _ (drop count (part ns u ps)) (drop count (part ns u ds)) (ap length (drop_all count (part ns u ds) (omega (arith, many, counts_are))))))

  -- one is reached
  module _ {a r t : ℕ} (reached : Reached a m (own_row bs) (own_row ts) r t) where
    reached_own : Reached a m (part ns u bs) (part ns u ts) r t
    reached_own = rw (own_is bs, own_is ts) at reached

    pub own_came : Came a (part ns u ds) r
    own_came = came_to (timed.each u there) reached_own

    pub own_short : t + sum (take (begin + count - (begin + r)) (drop (begin + r) ds)) < 2 ^ 32
    own_short = rw (own_rest r ds) (reached_short (timed.each u there) reached_own short)

    -- the slots are marked from it on
    pub marks_from : (v first e : ℕ) (ms slots : List ℕ)
        → slots ≡ marks v first (note_ticks e t (take (begin + count - (begin + r)) (drop (begin + r) ps)) (take (begin + count - (begin + r)) (drop (begin + r) ds))) ms
        → slots ≡ marks v first (ticks_from e (part ns u ps) (part ns u ds) r) ms
    marks_from v first e ms slots h = rw (own_rest r ps, own_rest r ds, reached_tick (timed.each u there) reached_own) at h
