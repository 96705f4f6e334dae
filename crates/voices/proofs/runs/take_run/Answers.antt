-- The marks of one word are taken.
use Rattle.std.proofs.Common.{◌≡◌, ℕ, w32, ◌+◌, ◌*◌, ◌/◌, ◌%◌, ◌^◌, ◌≤◌, min, length, get_or, set, sym, ap, ◌∙◌}
use Rattle.std.specs.Int.{trailing_ones}
use Rattle.marks.specs.Marked.{marked}
use Rattle.voices.proofs.Taken.{run_is, behind_is, rest_is}
use Rattle.voices.proofs.runs.take_run.Goals as goal
use Rattle.voices.proofs.runs.take_run.Goals.{After-trailing_ones-run}

module _ (c : After-trailing_ones-run) (last : ℕ) (le : c.args.at ≤ last) (e : c.args.marks.now ≡ marked c.args.at last (length c.args.marks.now)) where
  behind : c.args.at + c.trailing_ones-run.result ≡ min last (32 * (c.args.at / 32 + 1))
  behind =
      ap (λ i. c.args.at + i)
      (c.trailing_ones-run.ensures ∙ (ap (λ xs. trailing_ones w32 (get_or xs (c.args.at / 32) 0 / 2 ^ (c.args.at % 32))) e ∙ run_is c.args.at last (length c.args.marks.now) le c.requires.reach))
      ∙ behind_is c.args.at last (length c.args.marks.now) le c.requires.reach

  rest : set c.args.marks.now (c.args.at / 32) 0 ≡ marked (c.args.at + c.trailing_ones-run.result) last (length c.args.marks.now)
  rest =
      ap (λ xs. set xs (c.args.at / 32) 0) e
      ∙ (rest_is c.args.at last (length c.args.marks.now) le c.requires.reach ∙ ap (λ i. marked i last (length c.args.marks.now)) (sym behind))

pub returns : goal.returns
returns c =
    let q = (goal.at.returns c).After-trailing_ones-run in
    record { run = behind q; rest = rest q }
