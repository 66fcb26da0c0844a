pub mod SpelledFirst
