pub mod PrologPhrases
