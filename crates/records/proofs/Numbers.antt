-- Numbers as records, and numbers that are too large for their fields. Assumes nothing.
use Rattle.std.proofs.Common.{◌≡◌, ℕ, ◌-◌, ◌/◌, ◌<◌, ◌≤◌, Bool, true, false, ◌&&◌, ◌||◌, eqb, ltb, List, [], ◌∷◌, length, get_or, take, drop, sym, refl, ap, subst, arith}
use Rattle.std.proofs.lemmas.List.{take_rest}
use Rattle.std.proofs.lemmas.Bool.{and_from, lt-ltb}
use Rattle.score.specs.Music.{places, length_end, note, silence, lasts, fine}
use Rattle.score.proofs.Picks.{pick_true, pick_false}
use Rattle.laws.specs.Rows.{event_of}
use Rattle.memory.proofs.Scores.{fine_fields}
use Rattle.rows.specs.declared.Row.{Row}
use Rattle.rows.specs.Rows.{event_in, fits}
use Rattle.records.specs.Records.{records_of}

-- the first four numbers, and those behind them
pub four_first : (ns : List ℕ) → 4 ≤ length ns → ns ≡ get_or ns 0 0 ∷ (get_or ns 1 0 ∷ (get_or ns 2 0 ∷ (get_or ns 3 0 ∷ drop 4 ns)))
four_first [] h = absurd (omega arith)
four_first (v ∷ []) h = absurd (omega arith)
four_first (v ∷ (p ∷ [])) h = absurd (omega arith)
four_first (v ∷ (p ∷ (a ∷ []))) h = absurd (omega arith)
four_first (v ∷ (p ∷ (a ∷ (d ∷ ns)))) h = refl

-- four numbers are a record, and fewer are none
pub first_record : (ns : List ℕ) → 4 ≤ length ns →
    records_of ns ≡ record { voice = get_or ns 0 0; row = record { place = get_or ns 1 0; alteration = get_or ns 2 0; length = get_or ns 3 0 } } ∷ records_of (take (length ns - 4) (drop 4 ns))
unfolding records_of
first_record [] h = absurd (omega arith)
first_record (v ∷ []) h = absurd (omega arith)
first_record (v ∷ (p ∷ [])) h = absurd (omega arith)
first_record (v ∷ (p ∷ (a ∷ []))) h = absurd (omega arith)
first_record (v ∷ (p ∷ (a ∷ (d ∷ ns)))) h = ap (λ x. record { voice = v; row = record { place = p; alteration = a; length = d } } ∷ records_of x) (sym (take_rest (v ∷ (p ∷ (a ∷ (d ∷ ns)))) 4))

pub no_record : (ns : List ℕ) → length ns < 4 → records_of ns ≡ []
unfolding records_of
no_record [] h = refl
no_record (v ∷ []) h = refl
no_record (v ∷ (p ∷ [])) h = refl
no_record (v ∷ (p ∷ (a ∷ []))) h = refl
no_record (v ∷ (p ∷ (a ∷ (d ∷ ns)))) h = absurd (omega arith)

pub many_records : (ns : List ℕ) → length (records_of ns) ≡ length ns / 4
unfolding records_of
many_records [] = omega arith
many_records (v ∷ []) = omega arith
many_records (v ∷ (p ∷ [])) = omega arith
many_records (v ∷ (p ∷ (a ∷ []))) = omega arith
many_records (v ∷ (p ∷ (a ∷ (d ∷ ns)))) = let k = many_records ns in omega arith

-- an event with a number that is too large for its field cannot be written
fine_fits : (p a d : ℕ) → fine (event_of p a d) ≡ true → (ltb d length_end && (eqb p places || (ltb p 256 && ltb a 256))) ≡ true
unfolding lasts
fine_fits p a d h = go (eqb p places) refl
  where
    go : (b : Bool) → eqb p places ≡ b → (ltb d length_end && (b || (ltb p 256 && ltb a 256))) ≡ true
    go true e = let f = fine_fields (silence d) (subst (λ x. fine x ≡ true) (pick_true _ _ _ e) h) in and_from _ _ (lt-ltb d length_end f.3) refl
    go false e =
        let f = fine_fields (note p a d) (subst (λ x. fine x ≡ true) (pick_false _ _ _ e) h) in
        and_from _ _ (lt-ltb d length_end f.3) (and_from _ _ (lt-ltb p 256 (omega (arith, f.0))) (lt-ltb a 256 (omega (arith, f.1))))

pub unfit : (r : Row) → fits r ≡ false → fine (event_in r) ≡ false
unfit r n = go (fine (event_in r)) refl
  where
    go : (b : Bool) → fine (event_in r) ≡ b → b ≡ false
    go true e = absurd (let y = fine_fits r.place r.alteration r.length e in cc)
    go false e = refl
