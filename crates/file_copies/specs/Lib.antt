pub mod FileCopies
