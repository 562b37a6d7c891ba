mod BootLaws
mod ComparedLaws
mod ErrorLaws
mod GivingLaws
mod LineLaws
