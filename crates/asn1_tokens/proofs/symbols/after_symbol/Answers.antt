use Rattle.std.proofs.Common.{map, nat_eq, refl}
use Rattle.std.specs.List.{starts_with}
use Rattle.asn1_tokens.specs.declared.symbols.TheConstants.{SYMBOLS}
use Rattle.asn1_tokens.specs.Words.{begins_with_symbol, is_symbol}
use Rattle.asn1_tokens.proofs.ItemLemmas.{none_found, symbol_splits}
use Rattle.asn1_tokens.proofs.SymbolLemmas.{symbol_longest}
use Rattle.asn1_tokens.proofs.symbols.after_symbol.Goals as goal

pub returns-in-Some-clause-found : goal.returns-in-Some-clause-found
unfolding is_symbol
returns-in-Some-clause-found c = symbol_splits (map (λ k. k.now) SYMBOLS) c.args.text.now c.in-Some.symbol.now c.in-Some.ensures

pub returns-in-Some-clause-longest : goal.returns-in-Some-clause-longest
unfolding is_symbol
returns-in-Some-clause-longest c = symbol_longest (map (λ k. k.now) SYMBOLS) c.args.text.now c.in-Some.symbol.now refl c.in-Some.ensures

pub returns-in-None-clause-found : goal.returns-in-None-clause-found
unfolding begins_with_symbol
returns-in-None-clause-found c = none_found (λ known. starts_with nat_eq c.args.text.now known) (map (λ k. k.now) SYMBOLS) c.in-None.ensures
