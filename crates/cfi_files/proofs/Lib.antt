mod SendingLemmas
mod FdeRowsSent
mod EntryRowsSent
mod WholeFiles
