mod PieceLaws
mod EntryLaws
mod EventLaws
mod LineLaws
