pub mod FilledImages
