pub mod RowLines
pub mod Operations
pub mod OperationReads
pub mod ExpressionWords
pub mod Wordings
pub mod JsonRows
pub mod AnswerLines
pub mod KeptRules
