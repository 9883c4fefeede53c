pub mod SettingRefusals
pub mod Refusals
pub mod Resolution
pub mod Laws
