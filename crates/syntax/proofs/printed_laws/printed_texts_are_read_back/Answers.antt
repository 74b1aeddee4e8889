use Rattle.syntax.proofs.TextsInGrammar.{text_in_grammar}
use Rattle.syntax.proofs.ReadsBack.{reads_back}
use Rattle.syntax.proofs.printed_laws.printed_texts_are_read_back.Goals as goal

pub returns : goal.returns
returns c = record {
  in_grammar = text_in_grammar;
  reads_back = reads_back;
  again = λ bytes tree text. reads_back tree (text_in_grammar bytes tree text);
}
