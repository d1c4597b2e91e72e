-- The laws of ranges: the summaries of one row of words (`Rows`), and row after row (`Mending`).
pub mod Rows
pub mod Mending
