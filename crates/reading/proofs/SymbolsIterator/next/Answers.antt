-- The first symbol is given, and its bytes are taken.
use Rattle.std.proofs.Common.{sym, ap, ◌∙◌, length, take, drop, ◌-◌}
use Rattle.std.proofs.lemmas.List.{take_rest}
use Rattle.reading.specs.Symbols.{before, symbols_of}
use Rattle.reading.proofs.Rows.{by_first}
use Rattle.reading.proofs.SymbolsIterator.next.Goals as goal

pub returns-clause-steps : goal.returns-clause-steps
returns-clause-steps c =
    let bs = c.args.self.now.0.now in
    record { gives = by_first bs ∙ ap (λ o. before o (symbols_of (take (length bs - 5) (drop 5 bs)))) (sym c.in_ok-symbol.ensures); takes = take_rest bs 5 }
