mod Calling
mod RowLaws
mod CallLoop
mod Opened
