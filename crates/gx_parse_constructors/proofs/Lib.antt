pub mod ContentPhrases
pub mod DirectPhrases
pub mod StringsPhrases
