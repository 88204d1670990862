-- One after the other.
use Rattle.lw_grammar.proofs.KeywordRows.{keyword_row_yields, keyword_row_can}
use Rattle.lw_grammar.proofs.sentences.laws.keyword_rows.Goals as goal

pub returns : goal.returns
returns c = record {
  yields = keyword_row_can;
  no_other = keyword_row_yields;
}
