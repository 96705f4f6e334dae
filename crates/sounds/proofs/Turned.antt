-- One turn over the rows of words: the note that the lowest bit of a slot tells of, and what is left behind it. Assumes nothing.
use Rattle.std.proofs.Common.{◌≡◌, ℕ, suc, ◌+◌, ◌-◌, ◌^◌, ◌<◌, ◌≤◌, true, List, [], ◌∷◌, length, get_or, take, drop, set, sum, sym, ap, ◌∙◌, subst, inl, inr, arith}
use lib.Bits.{bit_xor}
use Rattle.std.proofs.lemmas.List.{drop-drop, get_or-drop, get_or-set_same, get_or-set_other, length-take, length-drop}
use Rattle.std.proofs.lemmas.Bool.{cases_eq, cases_lt}
use Rattle.score.specs.Music.{places, alterations, length_end, Event, note, silence, Heard, heard, total, fine, all_fine}
use Rattle.score.specs.Calls.{voice}
use Rattle.laws.specs.Rows.{voice_of}
use Rattle.memory.proofs.Scores.{fine_at, fines_voice, fine_parts}
use Rattle.sounds.specs.Spans.{Row, from_event, until, silences, grain, begun, sound_at, score_in, Laid, left, Ready, all_left}
use Rattle.sounds.proofs.Bits.{Lowest}
use Rattle.sounds.proofs.Turns.{First, turn_first, turn_mixed, turn_begin}
use Rattle.sounds.proofs.Parts.{voice_drop, length_voice, voice_dealt, drop_take_sub, total_take, note_fields, Next, next_heard, none_left}

from_later : (es : List Event) (u e i k : ℕ) → until u e (heard (drop (suc k) (drop i es)) (total (take i es) + total (take (suc k) (drop i es)))) ≡ until u e (from_event es (i + suc k))
from_later es u e i k =
    ap (λ (xs : List Event). until u e (heard xs (total (take i es) + total (take (suc k) (drop i es))))) (drop-drop (suc k) i es)
    ∙ ap (λ (n : ℕ). until u e (heard (drop (i + suc k) es) n)) (total_take i (suc k) es)

-- a voice of which something is left is there
there : (ns ps xs ds : List ℕ) (e : ℕ) (cursors : List ℕ) (u : ℕ) (y : ℕ × Heard) (ys : Row) → left ns ps xs ds e cursors u ≡ y ∷ ys → u < length ns
there ns ps xs ds e cursors u y ys h =
    elim (cases_lt u (length ns)) [
      | inl l ↦ l
      | inr l ↦ let f : [] ≡ y ∷ ys = sym (none_left ns ps xs ds e cursors u l) ∙ h in cc
    ]

-- The turn of voice v: its cursor passes over silences to a note, which is next of all that is left.
module _ (ns ps xs ds : List ℕ) (e : ℕ) (cursors : List ℕ) (t m v : ℕ) (ms : List ℕ) where
  pub record Turned (at : ℕ) : Type 0 where
    pub there : v < length ns
    pub in_rows : at < length ps
    pub place : get_or ps at 0 < places
    pub alteration : get_or xs at 0 < alterations
    pub long : get_or ds at 0 < length_end
    pub next : all_left ns ps xs ds e cursors ≡ (v, sound_at ps xs ds at t) ∷ all_left ns ps xs ds e (set cursors v (at + 1))
    pub ready : Ready ns ps xs ds e (set cursors v (at + 1)) t (bit_xor m (2 ^ v) ∷ ms)

  module _ (laid : Laid ns ps xs ds) (room : length ns ≤ length cursors) (ready : Ready ns ps xs ds e cursors t (m ∷ ms)) (low : Lowest m v) where
    abbrev At : ℕ
    At = get_or cursors v 0 + silences (drop (get_or cursors v 0) ps)

    abbrev F : ℕ → Row
    F = left ns ps xs ds e cursors

    abbrev G : ℕ → Row
    G = left ns ps xs ds e (set cursors v (At + 1))

    first : First (F v) t (begun v (t + grain) ms)
    first = turn_first F t m v ms ready.begin low

    in_score : v < length ns
    in_score = there ns ps xs ds e cursors v first.note first.rest first.is

    abbrev Es : List Event
    Es = voice (score_in ns ps xs ds) v

    abbrev Cur : ℕ
    Cur = get_or cursors v 0

    abbrev I : ℕ
    I = Cur - sum (take v ns)

    abbrev K : ℕ
    K = silences (drop Cur ps)

    -- what is left of the voice's events, as rows of words
    rows_left : drop I Es ≡ take (get_or ns v 0 - I) (voice_of (drop Cur ps) (drop Cur xs) (drop Cur ds))
    rows_left =
        let b : sum (take v ns) + I ≡ Cur = let r = ready.reached v in_score in omega arith in
        ap (drop I) (voice_dealt ns (voice_of ps xs ds) v) ∙ drop_take_sub I (get_or ns v 0) _
        ∙ ap (take (get_or ns v 0 - I)) (drop-drop I (sum (take v ns)) (voice_of ps xs ds) ∙ ap (λ (n : ℕ). drop n (voice_of ps xs ds)) b ∙ voice_drop Cur ps xs ds)

    abbrev Left : List Event
    Left = take (get_or ns v 0 - I) (voice_of (drop Cur ps) (drop Cur xs) (drop Cur ds))

    coming : Next Left (drop Cur ps) (drop Cur xs) (drop Cur ds) K (total (take I Es)) v e first.note first.rest
    coming =
        next_heard (drop Cur ps) (drop Cur xs) (drop Cur ds) (get_or ns v 0 - I) (total (take I Es)) v e first.note first.rest
        (ap (λ (es : List Event). until v e (heard es (total (take I Es)))) (sym rows_left) ∙ first.is)

    in_rows_left : At < length ps
    in_rows_left =
        let a : length (voice_of (drop Cur ps) (drop Cur xs) (drop Cur ds)) ≡ length (drop Cur ps) =
        length_voice (drop Cur ps) (drop Cur xs) (drop Cur ds) (simp length-drop (omega (arith, laid.alterations_too))) (simp length-drop (omega (arith, laid.lengths_too))) in
        let b = length-take (get_or ns v 0 - I) (voice_of (drop Cur ps) (drop Cur xs) (drop Cur ds)) in
        let d = length-drop Cur ps in
        omega (arith, coming.in_voice, a, b, d)

    same_sound : sound_at (drop Cur ps) (drop Cur xs) (drop Cur ds) K t ≡ sound_at ps xs ds At t
    same_sound = rw (get_or-drop Cur ps K 0, get_or-drop Cur xs K 0, get_or-drop Cur ds K 0)

    fine_note : fine (note (get_or ps At 0) (get_or xs At 0) (get_or ds At 0)) ≡ true
    fine_note =
        let f : all_fine (drop I Es) ≡ true = (fine_parts I Es (fines_voice (score_in ns ps xs ds) v laid.fines)).1 in
        let g : fine (get_or Left K (silence 0)) ≡ true = fine_at Left K (silence 0) coming.in_voice (ap all_fine (sym rows_left) ∙ f) in
        let h : note (get_or (drop Cur ps) K 0) (get_or (drop Cur xs) K 0) (get_or (drop Cur ds) K 0) ≡ note (get_or ps At 0) (get_or xs At 0) (get_or ds At 0) =
        rw (get_or-drop Cur ps K 0, get_or-drop Cur xs K 0, get_or-drop Cur ds K 0) in
        ap fine (sym (coming.event ∙ h)) ∙ g

    gone : G v ≡ first.rest
    gone =
        let r = ready.reached v in_score in
        let c : get_or (set cursors v (At + 1)) v 0 ≡ At + 1 = get_or-set_same cursors v (At + 1) 0 (omega (arith, in_score)) in
        let i : At + 1 - sum (take v ns) ≡ I + suc K = omega (arith, r) in
        ap (λ (n : ℕ). until v e (from_event Es (n - sum (take v ns)))) c ∙ ap (λ (n : ℕ). until v e (from_event Es n)) i
        ∙ sym (from_later Es v e I K)
        ∙ ap (λ (es : List Event). until v e (heard (drop (suc K) es) (total (take I Es) + total (take (suc K) es)))) rows_left
        ∙ sym coming.rest

    same : (u : ℕ) → (u ≡ v → ⊥) → F u ≡ G u
    same u ne = ap (λ (n : ℕ). until u e (from_event (voice (score_in ns ps xs ds) u) (n - sum (take u ns)))) (sym (get_or-set_other cursors v u (At + 1) 0 ne))

    here : Turned At
    unfolding first
    here =
        let n : first.note ≡ (v, sound_at ps xs ds At t) =
        coming.sound ∙ ap (λ (i : ℕ). (v, sound_at (drop Cur ps) (drop Cur xs) (drop Cur ds) K i)) first.starts_at ∙ ap (λ (s : Heard). (v, s)) same_sound in
        let f = note_fields _ _ _ fine_note in
        record {
          there = in_score;
          in_rows = in_rows_left;
          place = f.0;
          alteration = f.1;
          long = f.2;
          next = turn_mixed F t m v ms ready.begin low G gone same (length ns) in_score ∙ ap (λ (y : ℕ × Heard). y ∷ all_left ns ps xs ds e (set cursors v (At + 1))) n;
          ready = record {
            begin = turn_begin F t m v ms ready.begin low G gone same;
            reached = λ u l. elim (cases_eq u v) [
              | inl q ↦
                  let r = ready.reached v in_score in
                  let c : get_or (set cursors v (At + 1)) v 0 ≡ At + 1 = get_or-set_same cursors v (At + 1) 0 (omega (arith, in_score)) in
                  subst (λ (i : ℕ). sum (take i ns) ≤ get_or (set cursors v (At + 1)) i 0) (sym q) (omega (arith, r, c))
              | inr ne ↦ subst (λ (i : ℕ). sum (take u ns) ≤ i) (sym (get_or-set_other cursors v u (At + 1) 0 ne)) (ready.reached u l)
            ];
          };
        }

    pub turned : (at : ℕ) → at ≡ At → Turned at
    turned at q = subst Turned (sym q) here
