pub mod Computing
pub mod RowLineLemmas
mod KeptRulesLemmas
mod RowsPrinted
mod ExpressionWordsLemmas
mod JsonRowLemmas
pub mod RowWordsLemmas
mod JsonPrinted
